-- Each kind of change as a change at a place of a table in key order.
use mathlib.Core.Path.{◌≡◌, refl, sym, ◌∙◌, ap, subst}
use mathlib.Core.Bool.{Bool, true, false, false≢true}
use mathlib.Core.List.{List, [], ◌∷◌, ◌++◌, append-nil}
use Prim.Native.Nat.{ℕ, suc, ◌+◌, ◌<◌}
use native.Mathlib.Numerals.{add-one}
use lib.ListN.{length, get_or, take, drop}
use lib.Seq.{drop-cons, split_at, take-suc}
use Rattle.std.specs.declared.cmp.Ordering.TheVariants.{Less, Equal}
use Rattle.names.specs.Key.{Key, key_order, same_key, covers}
use Rattle.names.specs.Pick.{pick}
use Rattle.names.proofs.Ordered.{key-order, same_key_refl}
use Rattle.names.proofs.Tests.{not_then}
use Rattle.store.specs.Table.{Entity, put_by, put, revalue, without}
use Rattle.store.proofs.Tables.EveryEntity.{Every, every_none, every_more, every_append, every_then}
use Rattle.store.proofs.Tables.Holds.{holds_at, holds_ahead, holds-behind}
use Rattle.store.proofs.Tables.Keys.{less_turned, not_covered, covers_between}
use Rattle.store.proofs.Tables.Size.{revalue-missing}
use Rattle.store.proofs.Tables.Sorted.{Ahead, Behind, ahead_further, behind_further, Ascending, ascending_ahead, ascending_behind}
use Rattle.store.specs.code.Turn.{holds}

-- A make, between the keys before it and the keys after it.
pub put-place : (e : Entity) (es fs : List Entity) → Ahead e.key es → Behind e.key fs → put e (es ++ fs) ≡ es ++ e ∷ fs
unfolding put put_by
put-place e [] [] a b = refl
put-place e [] (f ∷ fs) a (every_more l b) = rw l
put-place e (d ∷ es) fs (every_more l a) b = rw (less_turned d.key e.key l) (ap (λ (r : List Entity). d ∷ r) (put-place e es fs a b))

pub put_last : (e : Entity) (es : List Entity) → Ahead e.key es → put e es ≡ es ++ e ∷ []
put_last e es a = rw append-nil at (put-place e es [] a every_none)

-- A write, in place of the one with its key.
revalue-append : (e : Entity) (es fs : List Entity) → revalue e (es ++ fs) ≡ revalue e es ++ revalue e fs
unfolding revalue
revalue-append e [] fs = refl
revalue-append e (d ∷ es) fs = ap (λ (r : List Entity). pick (same_key e.key d.key) e d ∷ r) (revalue-append e es fs)

pub revalue-place : (e : Entity) (es : List Entity) (f : Entity) (fs : List Entity) → Ascending (es ++ f ∷ fs) → e.key ≡ f.key
    → revalue e (es ++ f ∷ fs) ≡ es ++ e ∷ fs
unfolding revalue pick
revalue-place e es f fs a s =
    let before : holds e.key es ≡ false = rw s (holds_ahead f.key es (ascending_ahead es f fs a)) in
    let behind : holds e.key fs ≡ false = rw s (holds-behind f.key fs (ascending_behind es f fs a)) in
    let here : same_key e.key f.key ≡ true = rw s (same_key_refl f.key) in
    rw (revalue-append e es (f ∷ fs), revalue-missing e es before, here, revalue-missing e fs behind)

-- An end, of a run of entities: those before its key and those behind the run stay.
without-append : (k : Key) (es fs : List Entity) → without k (es ++ fs) ≡ without k es ++ without k fs
unfolding without pick
without-append k [] fs = refl
without-append k (d ∷ es) fs = rw (without-append k es fs) (go (covers k d.key))
  where
    go : (b : Bool) → pick b (without k es ++ without k fs) (d ∷ without k es ++ without k fs) ≡ pick b (without k es) (d ∷ without k es) ++ without k fs
    go true = refl
    go false = refl

abbrev pub Covered : Key → List Entity → Type 0
Covered k es = Every (λ (f : Entity). covers k f.key ≡ true) es

abbrev pub Uncovered : Key → List Entity → Type 0
Uncovered k es = Every (λ (f : Entity). covers k f.key ≡ false) es

without_covered : (k : Key) (es : List Entity) → Covered k es → without k es ≡ []
unfolding without pick
without_covered k [] a = refl
without_covered k (f ∷ fs) (every_more c a) = rw c (without_covered k fs a)

pub without_none : (k : Key) (es : List Entity) → Uncovered k es → without k es ≡ es
unfolding without pick
without_none k [] a = refl
without_none k (f ∷ fs) (every_more c a) = rw c (ap (λ (r : List Entity). f ∷ r) (without_none k fs a))

pub ahead_uncovered : (k : Key) (es : List Entity) → Ahead k es → Uncovered k es
ahead_uncovered k es a = every_then _ _ (λ f l. not_covered k f.key l) es a

-- The first behind a key that the key does not cover ends the run.
pub behind_uncovered : (k : Key) (e : Entity) (es : List Entity) → key_order k e.key ≡ Less → covers k e.key ≡ false → Behind e.key es → Uncovered k (e ∷ es)
behind_uncovered k e es l n b =
    every_more n (every_then _ _ (λ f q. not_then (covers k f.key) (λ c. false≢true (sym n ∙ covers_between k e.key f.key l q c))) es b)

pub without-place : (k : Key) (es run fs : List Entity) → Ahead k es → Covered k run → Uncovered k fs → without k (es ++ run ++ fs) ≡ es ++ fs
without-place k es run fs a c u =
    let before = without_none k es (ahead_uncovered k es a) in
    rw (without-append k (es ++ run) fs, without-append k es run, before, without_covered k run c, without_none k fs u, append-nil)

-- One entity compared with a key tells of all before it, or of all behind it: so a place is found by halving.
pub parted : (es : List Entity) (p : ℕ) (d : Entity) → Ascending es → p < length es → Ascending (take p es ++ get_or es p d ∷ drop (suc p) es)
parted es p d a h = subst Ascending (split_at es p d h) a

module _ (k : Key) (es : List Entity) (p : ℕ) (d : Entity) (a : Ascending es) (h : p < length es) where
  pub ahead_upto : key_order (get_or es p d).key k ≡ Less → Ahead k (take (p + 1) es)
  ahead_upto l =
      rw (add-one p, take-suc es p d h)
      (every_append _ (take p es) (get_or es p d ∷ [])
      (ahead_further (get_or es p d).key k (take p es) l (ascending_ahead (take p es) (get_or es p d) (drop (suc p) es) (parted es p d a h)))
      (every_more l every_none))

  pub behind_from : key_order k (get_or es p d).key ≡ Less → Behind k (drop p es)
  behind_from l =
      rw (drop-cons es p d h)
      (every_more l (behind_further k (get_or es p d).key (drop (suc p) es) l (ascending_behind (take p es) (get_or es p d) (drop (suc p) es) (parted es p d a h))))

  pub held_here : key_order (get_or es p d).key k ≡ Equal → holds k es ≡ true
  held_here s =
      let q : (get_or es p d).key ≡ k = key-order.equal (get_or es p d).key k s in
      rw q at (subst (λ (l : List Entity). holds (get_or es p d).key l ≡ true) (sym (split_at es p d h)) (holds_at (take p es) (get_or es p d) (drop (suc p) es)))
