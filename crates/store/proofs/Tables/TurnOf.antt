-- What a change in its turn asks, kind by kind: only a make can be one too many.
use mathlib.Core.Path.{◌≡◌, refl, ap}
use mathlib.Core.Bool.{Bool, true, false, not}
use mathlib.Core.List.{List}
use Prim.Native.Nat.{ℕ, suc, ◌≤◌}
use native.Mathlib.Omega.{arith}
use borrow.Author.Tests.{le-leb}
use lib.Dec.{leb, ltb}
use lib.ListN.{length}
use Rattle.names.specs.Key.{Key}
use Rattle.names.specs.Pick.{◌and◌}
use Rattle.names.proofs.Tests.{and_true}
use Rattle.store.specs.Change.{make, write, end, change, Value, is_change}
use Rattle.store.specs.Machine.{live_most}
use Rattle.store.specs.Table.{Entity, entity, put, revalue, without, applied}
use Rattle.store.proofs.Tables.Size.{put_one_more, revalue-length, without-length}
use Rattle.store.specs.code.Turn.{holds, rooted, allowed_in, changed, turn}

pub turn-make : (es : List Entity) (k : Key) (v : Value)
    → turn es (change make k v) ≡ (is_change (change make k v) and not (holds k es) and rooted es k and ltb (length es) live_most)
unfolding turn allowed_in changed applied ◌and◌
turn-make es k v = ap (λ (b : Bool). is_change (change make k v) and b) (go (holds k es) refl)
  where
    room : (r : Bool) (n m : ℕ) → n ≡ m → (r and leb n live_most) ≡ (r and leb m live_most)
    room r n m e = rw e

    go : (h : Bool) → holds k es ≡ h
        → ((not h and rooted es k) and leb (length (put (entity k v) es)) live_most) ≡ (not h and rooted es k and ltb (length es) live_most)
    go true e = refl
    go false e = room (rooted es k) (length (put (entity k v) es)) (suc (length es)) (put_one_more (entity k v) es e)

module _ (es : List Entity) (k : Key) (v : Value) (few : length es ≤ live_most) where
  pub turn-write : turn es (change write k v) ≡ (is_change (change write k v) and holds k es)
  unfolding turn allowed_in changed applied
  turn-write =
      let r = revalue-length (entity k v) es in
      rw (le-leb (length (revalue (entity k v) es)) live_most (omega arith), and_true (holds k es))

  pub turn_end : turn es (change end k v) ≡ (is_change (change end k v) and holds k es)
  unfolding turn allowed_in changed applied
  turn_end =
      let w = without-length k es in
      rw (le-leb (length (without k es)) live_most (omega arith), and_true (holds k es))
