-- Room for one more change: the three limits asked by counts say what they say of the list of changes.
use mathlib.Core.Path.{◌≡◌, refl, sym, ◌∙◌, ap}
use mathlib.Core.Bool.{Bool, true, false, not}
use mathlib.Core.List.{List, [], ◌∷◌, ◌++◌}
use Prim.Native.Nat.{ℕ, ◌+◌, ◌-◌, ◌≤◌, ◌<◌}
use native.Mathlib.Omega.{arith}
use borrow.Author.Tests.{leb-true, leb-false, ltb-true, ltb-false, le-leb, lt-leb, not-true}
use lib.Dec.{eqb, leb, ltb}
use lib.ListN.{length, length-append}
use Rattle.names.specs.Key.{Key}
use Rattle.names.specs.Pick.{pick, ◌and◌}
use Rattle.names.proofs.Tests.{and_l, and_r}
use Rattle.store.specs.Change.{Kind, make, write, end, kind_number, Change, Value, live, change_bytes, changes_bytes}
use Rattle.store.specs.Image.{change_in}
use Rattle.store.specs.Machine.{within_limits, allowed_by, changes_most, bytes_most, live_most}
use Rattle.store.specs.code.Rows.{first_changes}
use Rattle.store.specs.Table.{entity, revalue, without, applied, table}
use Rattle.store.specs.code.Turn.{holds}
use Rattle.store.proofs.Tables.Holds.{table-holds}
use Rattle.store.proofs.Indexing.IndexLaws.{table-length}
use Rattle.store.proofs.Tables.OneChange.{table_snoc}
use Rattle.store.proofs.Tables.Size.{put_one_more, revalue-length, without-length}
use Rattle.store.proofs.Images.WithLaws.{changes_bytes-joined}
use Rattle.store.specs.code.Pending.{Taking, NextChange, room_for}
use Rattle.store.specs.declared.pending.Pending.{Pending}

-- Only a make adds to what is live.
live-room : (past : List Change) (d : Kind) (k : Key) (v : Value) → allowed_by d past k ≡ true → length (table past) ≤ live_most
    → leb (length (applied d (entity k v) (table past))) live_most ≡ pick (eqb (kind_number d) 1) (ltb (length (table past)) live_most) true
unfolding allowed_by applied kind_number pick
live-room past make k v a few =
    let missing : holds k (table past) ≡ false = table-holds past k ∙ not-true (live past k) (and_l (not (live past k)) _ a) in
    rw (put_one_more (entity k v) (table past) missing)
live-room past write k v a few = let l = revalue-length (entity k v) (table past) in le-leb (length (revalue (entity k v) (table past))) live_most (omega arith)
live-room past end k v a few = let l = without-length k (table past) in le-leb (length (without k (table past))) live_most (omega arith)

-- The tests as the code makes them.
tests_agree : (c b size most all-bytes : ℕ) (last : Bool) → b ≤ all-bytes
    → (leb (c + 1) most and leb (b + size) all-bytes and last) ≡ pick (leb most c) false (pick (ltb (all-bytes - b) size) false last)
unfolding pick ◌and◌
tests_agree c b size most all-bytes last h = go (leb most c) refl (ltb (all-bytes - b) size) refl
  where
    go : (x : Bool) → leb most c ≡ x → (y : Bool) → ltb (all-bytes - b) size ≡ y
        → (leb (c + 1) most and leb (b + size) all-bytes and last) ≡ pick x false (pick y false last)
    go true e y f = let g = leb-true most c e in rw (lt-leb (c + 1) most (omega arith))
    go false e true f =
        let g = leb-false most c e in
        let i = ltb-true (all-bytes - b) size f in
        rw (le-leb (c + 1) most (omega arith), lt-leb (b + size) all-bytes (omega arith))
    go false e false f =
        let g = leb-false most c e in
        let i = ltb-false (all-bytes - b) size f in
        rw (le-leb (c + 1) most (omega arith), le-leb (b + size) all-bytes (omega arith))

-- Of one change.
pub one_change-bytes : (cs : List Change) (x : Change) → length (changes_bytes (cs ++ x ∷ [])) ≡ length (changes_bytes cs) + length (change_bytes x)
unfolding changes_bytes
one_change-bytes cs x = let one = length-append (change_bytes x) [] in changes_bytes-joined cs (x ∷ []) ∙ omega arith

module _ (ns bs index : List ℕ) (t : Pending) (kind depth : ℕ) (text : List ℕ) (k : Taking ns bs index t) (u : NextChange ns bs t kind depth text) where
  abbrev past : List Change
  past = first_changes ns bs t.changes

  abbrev next : Change
  next = change_in kind depth text

  pub live-count : length (table past) ≡ t.entries
  live-count = sym (ap length k.indexed.says) ∙ table-length ns bs t.changes index t.entries k.indexed

  more-changes : length (past ++ next ∷ []) ≡ t.changes + 1
  more-changes = let c = k.loaded.holds.changes in length-append past (next ∷ []) ∙ omega arith

  more_bytes : length (changes_bytes (past ++ next ∷ [])) ≡ t.bytes + length text
  more_bytes = let b = k.loaded.holds.packed in let w = ap length u.whole in one_change-bytes past next ∙ omega arith

  more-live : leb (length (table (past ++ next ∷ []))) live_most ≡ pick (eqb kind 1) (ltb t.entries live_most) true
  more-live =
      let few = k.indexed.rows.few in
      let n = live-count in
      rw (table_snoc past next, live-room past next.kind next.key next.value u.allowed (omega arith), u.kind-is, live-count)

  pub limits_room : within_limits (past ++ next ∷ []) ≡ room_for t kind (length text)
  unfolding within_limits room_for
  limits_room =
      rw (more-changes, more_bytes, more-live)
      (tests_agree t.changes t.bytes (length text) changes_most bytes_most (pick (eqb kind 1) (ltb t.entries live_most) true) k.loaded.small)

-- What room says of the counts.
module _ (t : Pending) (kind size : ℕ) (small : t.bytes ≤ bytes_most) (r : room_for t kind size ≡ true) where
  room_tests : (leb (t.changes + 1) changes_most and leb (t.bytes + size) bytes_most and pick (eqb kind 1) (ltb t.entries live_most) true) ≡ true
  unfolding room_for
  room_tests = tests_agree t.changes t.bytes size changes_most bytes_most (pick (eqb kind 1) (ltb t.entries live_most) true) small ∙ r

  pub room-changes : t.changes < changes_most
  room-changes = let h = leb-true (t.changes + 1) changes_most (and_l _ _ room_tests) in omega arith

  pub room-bytes : t.bytes + size ≤ bytes_most
  room-bytes = leb-true (t.bytes + size) bytes_most (and_l _ _ (and_r (leb (t.changes + 1) changes_most) _ room_tests))
