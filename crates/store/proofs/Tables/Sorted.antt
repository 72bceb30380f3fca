-- The table stands in key order, each key once.
use mathlib.Core.Path.{◌≡◌, refl}
use mathlib.Core.Bool.{Bool, true, false}
use mathlib.Core.List.{List, [], ◌∷◌, ◌++◌}
use Rattle.std.specs.declared.cmp.Ordering.{Ordering}
use Rattle.std.specs.declared.cmp.Ordering.TheVariants.{Less, Equal, Greater}
use Rattle.names.specs.Key.{Key, key_order, same_key, covers}
use Rattle.names.specs.Pick.{pick}
use Rattle.names.proofs.Ordered.{key-order, same_key_eq}
use Rattle.store.specs.Change.{Kind, make, write, end, Change}
use Rattle.store.specs.Table.{Entity, entity, put_by, put, revalue, without, applied, table_from, table}
use Rattle.store.proofs.Tables.EveryEntity.{Every, every_none, every_more, every_front, every_at, every_put, every_revalue, every_without, every_then}
use Rattle.store.proofs.Tables.Keys.{more_turned}

-- Every key of a list comes after k; before k.
abbrev pub Behind : Key → List Entity → Type 0
Behind k es = Every (λ (f : Entity). key_order k f.key ≡ Less) es

abbrev pub Ahead : Key → List Entity → Type 0
Ahead k es = Every (λ (f : Entity). key_order f.key k ≡ Less) es

pub data Ascending : List Entity → Type 0 where
  ascending_none : Ascending []
  ascending_more : {e : Entity} {es : List Entity} → Behind e.key es → Ascending es → Ascending (e ∷ es)

pub behind_further : (j k : Key) (es : List Entity) → key_order j k ≡ Less → Behind k es → Behind j es
behind_further j k es l b = every_then _ _ (λ f q. key-order.trans j k f.key l q) es b

pub ahead_further : (j k : Key) (es : List Entity) → key_order j k ≡ Less → Ahead j es → Ahead k es
ahead_further j k es l b = every_then _ _ (λ f q. key-order.trans f.key j k q l) es b

-- The parts of a list in key order, and what stands around a place in it.
pub ascending_back : (es fs : List Entity) → Ascending (es ++ fs) → Ascending fs
ascending_back [] fs a = a
ascending_back (e ∷ es) fs (ascending_more b a) = ascending_back es fs a

pub ascending_front : (es fs : List Entity) → Ascending (es ++ fs) → Ascending es
ascending_front [] fs a = ascending_none
ascending_front (e ∷ es) fs (ascending_more b a) = ascending_more (every_front _ es fs b) (ascending_front es fs a)

pub ascending_ahead : (es : List Entity) (e : Entity) (fs : List Entity) → Ascending (es ++ e ∷ fs) → Ahead e.key es
ascending_ahead [] e fs a = every_none
ascending_ahead (d ∷ es) e fs (ascending_more b a) = every_more (every_at _ es e fs b) (ascending_ahead es e fs a)

pub ascending_behind : (es : List Entity) (e : Entity) (fs : List Entity) → Ascending (es ++ e ∷ fs) → Behind e.key fs
ascending_behind es e fs a = first (ascending_back es (e ∷ fs) a)
  where
    first : Ascending (e ∷ fs) → Behind e.key fs
    first (ascending_more b a) = b

pub ascending_next : (es : List Entity) (d e : Entity) (fs : List Entity) → Ascending (es ++ d ∷ e ∷ fs) → key_order d.key e.key ≡ Less
ascending_next es d e fs a = every_at _ [] e fs (ascending_behind es d (e ∷ fs) a)

-- Each kind of change keeps the order.
pub put_ascending : (e : Entity) (es : List Entity) → Ascending es → Ascending (put e es)
unfolding put put_by
put_ascending e [] a = ascending_more every_none ascending_none
put_ascending e (f ∷ fs) (ascending_more b a) = go (put_ascending e fs a) (key_order e.key f.key) refl
  where
    go : Ascending (put e fs) → (o : Ordering) → key_order e.key f.key ≡ o → Ascending (put_by o e f fs (put e fs))
    go ih Less l = ascending_more (every_more l (behind_further e.key f.key fs l b)) (ascending_more b a)
    go ih Equal s = let behind : Behind e.key fs = rw (key-order.equal e.key f.key s) b in ascending_more behind a
    go ih Greater m = ascending_more (every_put _ e fs (more_turned e.key f.key m) b) ih

revalued_key : (e f : Entity) → (pick (same_key e.key f.key) e f).key ≡ f.key
unfolding pick
revalued_key e f = go (same_key e.key f.key) refl
  where
    go : (b : Bool) → same_key e.key f.key ≡ b → (pick b e f).key ≡ f.key
    go true s = same_key_eq e.key f.key s
    go false s = refl

pub revalue_ascending : (e : Entity) (es : List Entity) → Ascending es → Ascending (revalue e es)
unfolding revalue
revalue_ascending e [] a = ascending_none
revalue_ascending e (f ∷ fs) (ascending_more b a) =
    let behind : Behind (pick (same_key e.key f.key) e f).key (revalue e fs) = rw (revalued_key e f) (every_revalue _ e (λ g s q. rw s q) fs b) in
    ascending_more behind (revalue_ascending e fs a)

pub without_ascending : (k : Key) (es : List Entity) → Ascending es → Ascending (without k es)
unfolding without pick
without_ascending k [] a = ascending_none
without_ascending k (f ∷ fs) (ascending_more b a) = go (without_ascending k fs a) (covers k f.key)
  where
    go : Ascending (without k fs) → (c : Bool) → Ascending (pick c (without k fs) (f ∷ without k fs))
    go ih true = ih
    go ih false = ascending_more (every_without _ k fs b) ih

pub after_ascending : (d : Kind) (e : Entity) (es : List Entity) → Ascending es → Ascending (applied d e es)
unfolding applied
after_ascending make e es a = put_ascending e es a
after_ascending write e es a = revalue_ascending e es a
after_ascending end e es a = without_ascending e.key es a

pub table_from_ascending : (cs : List Change) (es : List Entity) → Ascending es → Ascending (table_from es cs)
unfolding table_from
table_from_ascending [] es a = a
table_from_ascending (c ∷ cs) es a = table_from_ascending cs _ (after_ascending c.kind (entity c.key c.value) es a)

pub table_ascending : (cs : List Change) → Ascending (table cs)
unfolding table
table_ascending cs = table_from_ascending cs [] ascending_none
