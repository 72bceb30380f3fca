-- Changes allowed in turn: one after another, and by the table alone.
use mathlib.Core.Path.{◌≡◌, refl, sym, ◌∙◌, ap}
use mathlib.Core.Bool.{Bool, true}
use mathlib.Core.List.{List, [], ◌∷◌, ◌++◌}
use Prim.Native.Nat.{◌≤◌}
use borrow.Author.Tests.{leb-true}
use lib.Dec.{leb}
use lib.ListN.{length}
use Rattle.names.specs.Bytes.{all}
use Rattle.names.specs.Key.{Key}
use Rattle.names.specs.Pick.{◌and◌}
use Rattle.names.proofs.Tests.{and_l, and_r, and_i, and_true, and_assoc}
use Rattle.store.specs.Change.{Kind, make, write, end, Change, is_change, parent_of}
use Rattle.store.specs.Machine.{live_most, allowed_by, in_turn}
use Rattle.store.specs.Table.{Entity, table, table_from}
use Rattle.store.proofs.Lists.AndLaws.{and_three}
use Rattle.store.proofs.Tables.Holds.{table-holds}
use Rattle.store.proofs.Tables.OneChange.{table_from-append, table_snoc}
use Rattle.store.specs.code.Turn.{rooted, allowed_in, changed, turn, turns}

-- A subject, or its parent is there.
pub allowed_by_table : (d : Kind) (past : List Change) (k : Key) → allowed_by d past k ≡ allowed_in d (table past) k
unfolding allowed_by allowed_in rooted
allowed_by_table make past k = rw (table-holds past k, table-holds past (parent_of k))
allowed_by_table write past k = sym (table-holds past k)
allowed_by_table end past k = sym (table-holds past k)

pub table-changed : (past : List Change) (c : Change) → table (past ++ c ∷ []) ≡ changed c (table past)
unfolding changed
table-changed past c = table_snoc past c

-- A change's turn by the table is its turn by the changes before it.
pub turn_past : (past : List Change) (c : Change)
    → turn (table past) c ≡ (is_change c and allowed_by c.kind past c.key and leb (length (table (past ++ c ∷ []))) live_most)
unfolding turn
turn_past past c = rw (allowed_by_table c.kind past c.key, table-changed past c)

pub in_turn-first : (past : List Change) (c : Change) (cs : List Change) → in_turn past (c ∷ cs) ≡ (turn (table past) c and in_turn (past ++ c ∷ []) cs)
unfolding in_turn
in_turn-first past c cs =
    rw (turn_past past c)
    (sym (and_three (is_change c) (allowed_by c.kind past c.key) (leb (length (table (past ++ c ∷ []))) live_most) (in_turn (past ++ c ∷ []) cs)))

-- Whether the rest is allowed in turn is told by the table as the changes so far left it.
pub in_turn-turns : (past cs : List Change) → in_turn past cs ≡ turns (table past) cs
unfolding in_turn turns
in_turn-turns past [] = refl
in_turn-turns past (c ∷ cs) =
    in_turn-first past c cs ∙ ap (λ (x : Bool). turn (table past) c and x) (in_turn-turns (past ++ c ∷ []) cs ∙ rw (table-changed past c))

pub turns-append : (es : List Entity) (xs ys : List Change) → turns es (xs ++ ys) ≡ (turns es xs and turns (table_from es xs) ys)
unfolding turns table_from ◌and◌ changed
turns-append es [] ys = refl
turns-append es (c ∷ xs) ys =
    rw (turns-append (changed c es) xs ys) (sym (and_assoc (turn es c) (turns (changed c es) xs) (turns (table_from (changed c es) xs) ys)))

pub in_turn-append : (past xs ys : List Change) → in_turn past (xs ++ ys) ≡ (in_turn past xs and in_turn (past ++ xs) ys)
unfolding table
in_turn-append past xs ys =
    rw (in_turn-turns past (xs ++ ys), in_turn-turns past xs, in_turn-turns (past ++ xs) ys, table_from-append [] past xs) (turns-append (table past) xs ys)

pub in_turn_snoc : (past xs : List Change) (c : Change) → in_turn past (xs ++ c ∷ []) ≡ (in_turn past xs and turn (table (past ++ xs)) c)
unfolding in_turn
in_turn_snoc past xs c = in_turn-append past xs (c ∷ []) ∙ ap (λ (x : Bool). in_turn past xs and x) (last (past ++ xs))
  where
    last : (past : List Change) → in_turn past (c ∷ []) ≡ turn (table past) c
    last past = in_turn-first past c [] ∙ and_true (turn (table past) c)

-- The front of a list that is allowed in turn is allowed in turn.
pub in_turn-front : (past xs ys : List Change) → in_turn past (xs ++ ys) ≡ true → in_turn past xs ≡ true
in_turn-front past xs ys e = and_l (in_turn past xs) _ (sym (in_turn-append past xs ys) ∙ e)

-- What a change in its turn has shown.
module _ (es : List Entity) (c : Change) (t : turn es c ≡ true) where
  pub turn-formed : is_change c ≡ true
  unfolding turn
  turn-formed = and_l (is_change c) _ t

  pub turn-allowed : allowed_in c.kind es c.key ≡ true
  unfolding turn
  turn-allowed = and_l (allowed_in c.kind es c.key) _ (and_r (is_change c) _ t)

  pub turn-few : length (changed c es) ≤ live_most
  unfolding turn
  turn-few = leb-true (length (changed c es)) live_most (and_r (allowed_in c.kind es c.key) _ (and_r (is_change c) _ t))

-- What every change in its turn keeps, the list keeps.
pub turns_keep : (P : List Entity → Type 0) → ((es : List Entity) (c : Change) → turn es c ≡ true → P es → P (changed c es))
    → (es : List Entity) (cs : List Change) → turns es cs ≡ true → P es → P (table_from es cs)
unfolding turns table_from changed
turns_keep P keep es [] t p = p
turns_keep P keep es (c ∷ cs) t p =
    turns_keep P keep (changed c es) cs (and_r (turn es c) _ t) (keep es c (and_l (turn es c) _ t) p)

pub in_turn_keep : (P : List Entity → Type 0) → ((es : List Entity) (c : Change) → turn es c ≡ true → P es → P (changed c es))
    → P [] → (cs : List Change) → in_turn [] cs ≡ true → P (table cs)
unfolding table table_from
in_turn_keep P keep start cs t = turns_keep P keep [] cs (sym (in_turn-turns [] cs) ∙ t) start

pub in_turn-changes : (past cs : List Change) → in_turn past cs ≡ true → all is_change cs ≡ true
unfolding all
in_turn-changes past [] t = refl
in_turn-changes past (c ∷ cs) t =
    let u = sym (in_turn-first past c cs) ∙ t in
    and_i (is_change c) (all is_change cs) (turn-formed (table past) c (and_l _ _ u)) (in_turn-changes (past ++ c ∷ []) cs (and_r (turn (table past) c) _ u))
