-- The entities that changes allowed in turn leave are as a snapshot needs them.
use mathlib.Core.Path.{◌≡◌, refl, sym, ◌∙◌}
use mathlib.Core.Bool.{Bool, true, false}
use mathlib.Core.List.{List, [], ◌∷◌, ◌++◌}
use Prim.Native.Nat.{◌≤◌}
use native.Mathlib.Omega.{arith}
use borrow.Author.Tests.{leb-true, leb-false}
use lib.Dec.{leb}
use lib.ListN.{length}
use lib.Seq.{append_snoc}
use Rattle.names.specs.Bytes.{all}
use Rattle.names.specs.Key.{Key, covers, depth_of, names_used}
use Rattle.names.specs.Order.{begins}
use Rattle.names.specs.Pick.{pick}
use Rattle.names.proofs.Tests.{and_i}
use Rattle.store.specs.Change.{Change, is_change, parent_of, changes_bytes}
use Rattle.store.specs.Machine.{bytes_most, in_turn}
use Rattle.store.specs.Table.{Entity, table}
use Rattle.store.proofs.Tables.Closed.{made_by, Formed, Proper, table_proper, entry_formed, entry_key}
use Rattle.store.proofs.Tables.Depths.{key-depth}
use Rattle.store.proofs.Tables.EveryEntity.{Every, every_more}
use Rattle.store.proofs.Tables.Holds.{table-holds, holds_ahead}
use Rattle.store.proofs.Tables.Made.{table-makes}
use Rattle.store.proofs.Tables.Neighbour.{parent-before, first-subject}
use Rattle.store.proofs.Tables.Size.{makes_of, table-size}
use Rattle.store.proofs.Tables.Sorted.{ascending_front, ascending_ahead}
use Rattle.snapshot.proofs.Facts.{TableFacts, nested}

-- A subject has the key of no names for its parent's, which every key goes on from.
subject_covered : (k j : Key) → depth_of k ≡ 1 → covers (parent_of k) j ≡ true
unfolding parent_of names_used covers begins pick
subject_covered k j e = rw e

next_covered : (done : List Entity) (d e : Entity) (rest : List Entity) → Proper (done ++ d ∷ e ∷ rest) → 1 ≤ depth_of e.key → covers (parent_of e.key) d.key ≡ true
next_covered done d e rest p h = by (leb (depth_of e.key) 1) refl
  where
    by : (b : Bool) → leb (depth_of e.key) 1 ≡ b → covers (parent_of e.key) d.key ≡ true
    by true q = subject_covered e.key d.key (let z = leb-true (depth_of e.key) 1 q in omega arith)
    by false q = parent-before done d e rest p.ascending p.closed (leb-false (depth_of e.key) 1 q)

nested_behind : (done : List Entity) (d : Entity) (rest : List Entity) → Proper (done ++ d ∷ rest) → nested d.key rest ≡ true
unfolding nested
nested_behind done d [] p = refl
nested_behind done d (e ∷ rest) p =
    let q : Proper (done ++ d ∷ [] ++ e ∷ rest) = rw append_snoc p in
    and_i (covers (parent_of e.key) d.key) (nested e.key rest)
    (next_covered done d e rest p (key-depth e.key (entry_key (done ++ d ∷ []) e rest q)))
    (nested_behind (done ++ d ∷ []) e rest q)

nested_all : (es : List Entity) → Proper es → nested [] es ≡ true
unfolding nested
nested_all [] p = refl
nested_all (e ∷ es) p =
    and_i (covers (parent_of e.key) []) (nested e.key es)
    (subject_covered e.key [] (first-subject e es p.ascending p.closed (entry_formed [] e es p)))
    (nested_behind [] e es p)

formed-makes : (es : List Entity) → Every Formed es → all is_change (makes_of es) ≡ true
unfolding makes_of all
formed-makes [] a = refl
formed-makes (e ∷ es) (every_more f a) = and_i (is_change (made_by e)) _ f (formed-makes es a)

-- Any list of entities that is such as the changes of a store leave it.
pub proper_facts : (es : List Entity) → Proper es → length (changes_bytes (makes_of es)) ≤ bytes_most → TableFacts es
proper_facts es p h =
    record {
      forms = formed-makes es p.formed;
      nests = nested_all es p;
      few = p.few;
      small = h;
      again = λ xs ys e. table-makes xs (ascending_front xs ys (rw e at p.ascending));
      new = λ xs e ys q.
          let a = rw q at p.ascending in
          sym (table-holds (makes_of xs) e.key) ∙ rw (table-makes xs (ascending_front xs (e ∷ ys) a)) (holds_ahead e.key xs (ascending_ahead xs e ys a));
    }

pub table_facts : (cs : List Change) → in_turn [] cs ≡ true → length (changes_bytes cs) ≤ bytes_most → TableFacts (table cs)
table_facts cs t h = proper_facts (table cs) (table_proper cs t) (omega (arith, table-size cs))
