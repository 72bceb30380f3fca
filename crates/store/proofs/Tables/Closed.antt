-- The table of a list that is allowed in turn: in key order, closed under parents, of entities of their forms, and not too long.
use mathlib.Core.Path.{◌≡◌, refl, sym, ◌∙◌, ap}
use mathlib.Core.Bool.{Bool, true, false, not, ◌||◌, false≢true}
use mathlib.Core.List.{List, [], ◌∷◌, ◌++◌}
use Prim.Native.Nat.{◌-◌, ◌≤◌, ◌<◌}
use native.Mathlib.Omega.{arith}
use borrow.Author.Tests.{ne_eqb}
use lib.Dec.{eqb}
use lib.ListN.{length}
use Rattle.names.specs.Key.{Key, depth_of, names_used, is_key, same_key, covers}
use Rattle.names.specs.Name.{is_value}
use Rattle.names.specs.Pick.{◌and◌}
use Rattle.names.proofs.Tests.{and_l, and_r, and_i, not_then}
use Rattle.store.specs.Change.{Kind, make, write, end, Change, change, Value, is_change, is_item, parent_of, value_fits}
use Rattle.store.specs.Machine.{live_most, in_turn}
use Rattle.store.specs.Table.{Entity, entity, put, revalue, without, applied, table}
use Rattle.store.proofs.Tables.EveryEntity.{Every, every_none, every_at, every_put, every_revalue, every_without, every_then, every_both, without_uncovered}
use Rattle.store.proofs.Tables.Holds.{holds-put, holds-revalue, holds-without, every_held}
use Rattle.store.proofs.Tables.InTurn.{turn-formed, turn-allowed, turn-few, in_turn_keep}
use Rattle.store.proofs.Tables.Keys.{covers_longer}
use Rattle.store.proofs.Tables.Sorted.{Ascending, ascending_none, after_ascending}
use Rattle.store.specs.code.Turn.{holds, rooted, allowed_in, changed, turn}

-- The change that makes an entity as it is.
abbrev pub made_by : Entity → Change
made_by e = change make e.key e.value

-- An entity is of its form if its make is.
abbrev pub Formed : Entity → Type 0
Formed e = is_change (made_by e) ≡ true

-- Each entity is a subject, or its parent is there.
abbrev pub Closed : List Entity → Type 0
Closed es = Every (λ (e : Entity). rooted es e.key ≡ true) es

module _ (e : Entity) (f : Formed e) where
  pub formed-key : is_key e.key ≡ true
  unfolding is_change
  formed-key = and_l (is_key e.key) _ f

-- A write is an item's, so what it leaves is of its form.
written-formed : (k : Key) (v : Value) → is_change (change write k v) ≡ true → is_change (change make k v) ≡ true
unfolding is_change value_fits
written-formed k v e =
    let item : is_item k ≡ true = and_r (is_value v) _ (and_r (is_key k) _ e) in
    and_i (is_key k) _ (and_l (is_key k) _ e) (and_i (is_value v) _ (and_l (is_value v) _ (and_r (is_key k) _ e)) (rw item))

pub after-formed : (d : Kind) (k : Key) (v : Value) (es : List Entity) → is_change (change d k v) ≡ true → Every Formed es → Every Formed (applied d (entity k v) es)
unfolding applied
after-formed make k v es f a = every_put _ (entity k v) es f a
after-formed write k v es f a = every_revalue _ (entity k v) (λ g s q. written-formed k v f) es a
after-formed end k v es f a = every_without _ k es a

-- A table that holds a key holds its parent.
pub parent-held : (es : List Entity) (k : Key) → Closed es → holds k es ≡ true → 1 < depth_of k → holds (parent_of k) es ≡ true
unfolding rooted
parent-held es k a h d =
    let w = every_held _ k es a h in
    rw (ne_eqb (depth_of k) 1 (λ q. omega arith)) at (rw w.1 at w.2)

-- Where the parent is in one table if it is in the other.
pub rooted_too : (es fs : List Entity) (k : Key) → (holds (parent_of k) es ≡ true → holds (parent_of k) fs ≡ true) → rooted es k ≡ true → rooted fs k ≡ true
unfolding rooted
rooted_too es fs k f r = go (eqb (depth_of k) 1) r
  where
    go : (b : Bool) → (b || holds (parent_of k) es) ≡ true → (b || holds (parent_of k) fs) ≡ true
    go true r = refl
    go false r = f r

pub put-closed : (e : Entity) (es : List Entity) → rooted es e.key ≡ true → Closed es → Closed (put e es)
put-closed e es r a = every_put _ e es (more e.key r) (every_then _ _ (λ f q. more f.key q) es a)
  where
    also : (s b : Bool) → b ≡ true → (s || b) ≡ true
    also true b e = refl
    also false b e = e

    more : (k : Key) → rooted es k ≡ true → rooted (put e es) k ≡ true
    more k r = rooted_too es (put e es) k (λ h. holds-put (parent_of k) e es ∙ also (same_key e.key (parent_of k)) (holds (parent_of k) es) h) r

pub revalue-closed : (e : Entity) (es : List Entity) → Closed es → Closed (revalue e es)
revalue-closed e es a =
    every_revalue _ e (λ f s q. ap (rooted (revalue e es)) s ∙ q) es
    (every_then _ _ (λ f q. rooted_too es (revalue e es) f.key (λ h. holds-revalue (parent_of f.key) e es ∙ h) q) es a)

-- An end leaves no entity whose parent it covers, since it would cover that entity too.
parent_uncovered : (k j : Key) → covers k j ≡ false → covers k (parent_of j) ≡ false
unfolding parent_of
parent_uncovered k j n = not_then (covers k (parent_of j)) (λ c. false≢true (sym n ∙ covers_longer k (names_used (depth_of j - 1)) j c))

pub without-closed : (k : Key) (es : List Entity) → Closed es → Closed (without k es)
unfolding ◌and◌
without-closed k es a =
    every_then _ _ (λ f q. kept f.key q.0 q.1) (without k es) (every_both _ _ (without k es) (every_without _ k es a) (without_uncovered k es))
  where
    kept : (j : Key) → rooted es j ≡ true → covers k j ≡ false → rooted (without k es) j ≡ true
    kept j r n = rooted_too es (without k es) j (λ h. rw (holds-without (parent_of j) k es, parent_uncovered k j n, h)) r

pub after-closed : (d : Kind) (k : Key) (v : Value) (es : List Entity) → allowed_in d es k ≡ true → Closed es → Closed (applied d (entity k v) es)
unfolding applied allowed_in
after-closed make k v es t a = put-closed (entity k v) es (and_r (not (holds k es)) _ t) a
after-closed write k v es t a = revalue-closed (entity k v) es a
after-closed end k v es t a = without-closed k es a

-- What the changes of a store leave.
pub record Proper (es : List Entity) : Type 0 where
  pub ascending : Ascending es
  pub closed : Closed es
  pub formed : Every Formed es
  pub few : length es ≤ live_most

pub proper_none : Proper []
proper_none = record { ascending = ascending_none; closed = every_none; formed = every_none; few = omega arith }

pub changed_proper : (es : List Entity) (c : Change) → turn es c ≡ true → Proper es → Proper (changed c es)
unfolding changed
changed_proper es c t p = record {
  ascending = after_ascending c.kind (entity c.key c.value) es p.ascending;
  closed = after-closed c.kind c.key c.value es (turn-allowed es c t) p.closed;
  formed = after-formed c.kind c.key c.value es (turn-formed es c t) p.formed;
  few = turn-few es c t;
}

pub table_proper : (cs : List Change) → in_turn [] cs ≡ true → Proper (table cs)
table_proper cs t = in_turn_keep Proper changed_proper proper_none cs t

-- Read at a place: for `table cs ≡ es ++ e ∷ fs` rewrite `table_proper cs t` by it.
module _ (es : List Entity) (e : Entity) (fs : List Entity) (p : Proper (es ++ e ∷ fs)) where
  pub entry_formed : Formed e
  entry_formed = every_at Formed es e fs p.formed

  pub entry_key : is_key e.key ≡ true
  entry_key = formed-key e entry_formed
