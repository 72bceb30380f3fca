-- Whether a table holds a key: after each kind of change, in parts of a table, and in the table of a list of changes.
use mathlib.Core.Path.{◌≡◌, refl, sym, ◌∙◌}
use mathlib.Core.Bool.{Bool, true, false, not, ◌||◌, or_assoc, or-true, false≢true}
use mathlib.Core.List.{List, [], ◌∷◌, ◌++◌}
use mathlib.Core.Option.{Option, none, some}
use Rattle.names.specs.Key.{Key, same_key, covers}
use Rattle.names.specs.Pick.{pick, ◌and◌}
use Rattle.names.proofs.Ordered.{key-less, key_more, same_key_eq, same_key_refl}
use Rattle.store.specs.Change.{Change, Value, live}
use Rattle.store.specs.Table.{Entity, put, revalue, without, table, lookup}
use Rattle.store.proofs.Tables.EveryEntity.{Every, every_more}
use Rattle.store.proofs.Tables.Keys.{less_turned}
use Rattle.store.proofs.Tables.Sorted.{Behind, Ahead}
use Rattle.store.proofs.Tables.TableSays.{instead, lookup-put, lookup-revalue, lookup-without, lookup_dead, lookup-live}
use Rattle.store.specs.code.Turn.{in_table, holds}

there-pick : (b : Bool) (v : Value) (o : Option Value) → in_table (pick b (some v) o) ≡ (b || in_table o)
unfolding in_table pick
there-pick true v o = refl
there-pick false v o = refl

pub holds_none : (k : Key) → holds k [] ≡ false
unfolding holds lookup in_table
holds_none k = refl

pub holds-first : (k : Key) (e : Entity) (es : List Entity) → holds k (e ∷ es) ≡ (same_key e.key k || holds k es)
unfolding holds lookup
holds-first k e es = there-pick (same_key e.key k) e.value (lookup k es)

pub holds-append : (k : Key) (es fs : List Entity) → holds k (es ++ fs) ≡ (holds k es || holds k fs)
holds-append k [] fs = rw (holds_none k)
holds-append k (e ∷ es) fs =
    rw (holds-first k e (es ++ fs), holds-first k e es, holds-append k es fs) (sym (or_assoc (same_key e.key k) (holds k es) (holds k fs)))

pub holds_at : (es : List Entity) (e : Entity) (fs : List Entity) → holds e.key (es ++ e ∷ fs) ≡ true
holds_at es e fs = rw (holds-append e.key es (e ∷ fs), holds-first e.key e fs, same_key_refl e.key) (or-true (holds e.key es))

pub holds-put : (k : Key) (e : Entity) (es : List Entity) → holds k (put e es) ≡ (same_key e.key k || holds k es)
unfolding holds
holds-put k e es = rw (lookup-put k e es) (there-pick (same_key e.key k) e.value (lookup k es))

pub holds-revalue : (k : Key) (e : Entity) (es : List Entity) → holds k (revalue e es) ≡ holds k es
unfolding holds in_table pick instead
holds-revalue k e es = rw (lookup-revalue k e es) (go (same_key e.key k) (lookup k es))
  where
    go : (b : Bool) (o : Option Value) → in_table (pick b (instead e.value o) o) ≡ in_table o
    go true none = refl
    go true (some v) = refl
    go false o = refl

pub holds-without : (k j : Key) (es : List Entity) → holds k (without j es) ≡ (not (covers j k) and holds k es)
unfolding holds in_table pick ◌and◌
holds-without k j es = rw (lookup-without k j es) (go (covers j k))
  where
    go : (b : Bool) → in_table (pick b none (lookup k es)) ≡ (not b and in_table (lookup k es))
    go true = refl
    go false = refl

-- A table does not hold a key that all its keys come after, or before.
pub holds-behind : (k : Key) (es : List Entity) → Behind k es → holds k es ≡ false
holds-behind k [] b = holds_none k
holds-behind k (e ∷ es) (every_more l b) = rw (holds-first k e es, key_more e.key k (less_turned k e.key l)) (holds-behind k es b)

pub holds_ahead : (k : Key) (es : List Entity) → Ahead k es → holds k es ≡ false
holds_ahead k [] b = holds_none k
holds_ahead k (e ∷ es) (every_more l b) = rw (holds-first k e es, key-less e.key k l) (holds_ahead k es b)

-- What holds of every entity holds of one with the key that the table holds.
pub every_held : (P : Entity → Type 0) (k : Key) (es : List Entity) → Every P es → holds k es ≡ true → (e : Entity) × (e.key ≡ k) × P e
every_held P k [] a h = absurd (false≢true (sym (holds_none k) ∙ h))
every_held P k (e ∷ es) (every_more p a) h = go (every_held P k es a) (same_key e.key k) refl (sym (holds-first k e es) ∙ h)
  where
    go : (holds k es ≡ true → (e : Entity) × (e.key ≡ k) × P e) → (b : Bool) → same_key e.key k ≡ b → (b || holds k es) ≡ true
        → (e : Entity) × (e.key ≡ k) × P e
    go ih true s h = (e, same_key_eq e.key k s, p)
    go ih false s h = ih h

-- The table of a list of changes holds what is live.
pub table-holds : (cs : List Change) (k : Key) → holds k (table cs) ≡ live cs k
unfolding holds in_table
table-holds cs k = go (live cs k) refl
  where
    go : (l : Bool) → live cs k ≡ l → in_table (lookup k (table cs)) ≡ l
    go true e = rw (lookup-live cs k e).1
    go false e = rw (lookup_dead cs k e)
