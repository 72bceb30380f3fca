-- One change more: what it does to liveness, to values, to the table and to the bytes.
use mathlib.Core.Path.{◌≡◌, refl, sym}
use mathlib.Core.Bool.{Bool, true, false, not, ◌||◌}
use mathlib.Core.List.{List, [], ◌∷◌, ◌++◌, append_assoc}
use mathlib.Core.Option.{Option, none, some}
use Rattle.names.specs.Bytes.{bytes, any}
use Rattle.names.specs.Key.{Key, same_key, covers}
use Rattle.names.specs.Order.{alike, begins, same}
use Rattle.names.specs.Pick.{pick, ◌and◌}
use Rattle.store.specs.Change.{make, end, Change, change, Value, is_make, is_end, makes, ends, gives, later, only_if, since_made, not_ended, live, value_of, changes_bytes}
use Rattle.store.specs.Machine.{Filed, changes_of}
use Rattle.store.specs.Table.{Entity, entity, applied, table_from, table}
use Rattle.store.proofs.Lists.Appending.{any_append}

-- By computation: of a form that is removed and made again, the old item is not live.
abbrev form : Key
form = bytes "7" ∷ bytes "SCR" ∷ [] ∷ bytes "VS" ∷ [] ∷ []

abbrev item : Key
item = form ++ bytes "BP" ∷ [] ∷ bytes "SYS" ∷ []

pub old_item_ended : live (change make form [] ∷ change make item [] ∷ change end form [] ∷ change make form [] ∷ []) item ≡ false
unfolding live not_ended since_made later only_if makes ends is_make is_end same_key covers same alike begins any ◌and◌
old_item_ended = refl

-- One change more since the make.
unfoldable since : Change → Option (List Change) → Option (List Change)
since c none = none
since c (some cs) = some (cs ++ c ∷ [])

since_made_snoc : (past : List Change) (c : Change) (k : Key) → since_made (past ++ c ∷ []) k ≡ pick (makes k c) (some []) (since c (since_made past k))
unfolding since_made since pick later only_if
since_made_snoc [] c k = go (makes k c)
  where
    go : (m : Bool) → only_if {A = List Change} m [] ≡ pick m (some []) none
    go true = refl
    go false = refl
since_made_snoc (d ∷ past) c k = rw (since_made_snoc past c k) (go (makes k c) (makes k d) (since_made past k))
  where
    go : (m b : Bool) (s : Option (List Change))
        → later (only_if b (past ++ c ∷ [])) (pick m (some []) (since c s)) ≡ pick m (some []) (since c (later (only_if b past) s))
    go true b s = refl
    go false true none = refl
    go false true (some s) = refl
    go false false none = refl
    go false false (some s) = refl

-- Live is what the last change made, and what was live before it that it does not end.
pub live_snoc : (past : List Change) (c : Change) (k : Key) → live (past ++ c ∷ []) k ≡ (makes k c || (not (ends k c) and live past k))
unfolding live not_ended since pick ◌and◌ any
live_snoc past c k = rw (since_made_snoc past c k) (go (makes k c) (since_made past k))
  where
    never : (e : Bool) → false ≡ (not e and false)
    never true = refl
    never false = refl

    neither : (a e : Bool) → not (a || (e || false)) ≡ (not e and not a)
    neither true true = refl
    neither true false = refl
    neither false true = refl
    neither false false = refl

    go : (m : Bool) (s : Option (List Change)) → not_ended k (pick m (some []) (since c s)) ≡ (m || (not (ends k c) and not_ended k s))
    go true s = refl
    go false none = never (ends k c)
    go false (some s) = rw (any_append (ends k) s (c ∷ [])) (neither (any (ends k) s) (ends k c))

later_assoc : {A : Type 0} (a b c : Option A) → later (later a b) c ≡ later a (later b c)
unfolding later
later_assoc a b none = refl
later_assoc a b (some c) = refl

pub value_of-append : (xs ys : List Change) (k : Key) → value_of (xs ++ ys) k ≡ later (value_of xs k) (value_of ys k)
unfolding value_of later
value_of-append [] ys k = go (value_of ys k)
  where
    go : (v : Option Value) → v ≡ later none v
    go none = refl
    go (some v) = refl
value_of-append (c ∷ xs) ys k = rw (value_of-append xs ys k) (sym (later_assoc (only_if (gives k c) c.value) (value_of xs k) (value_of ys k)))

pub value_of_snoc : (past : List Change) (c : Change) (k : Key) → value_of (past ++ c ∷ []) k ≡ later (value_of past k) (only_if (gives k c) c.value)
unfolding value_of later
value_of_snoc past c k = value_of-append past (c ∷ []) k

pub changes_of-append : (fs gs : List Filed) → changes_of (fs ++ gs) ≡ changes_of fs ++ changes_of gs
unfolding changes_of
changes_of-append [] gs = refl
changes_of-append (f ∷ fs) gs = rw (changes_of-append fs gs, append_assoc)

pub table_from-append : (es : List Entity) (xs ys : List Change) → table_from es (xs ++ ys) ≡ table_from (table_from es xs) ys
unfolding table_from
table_from-append es [] ys = refl
table_from-append es (c ∷ xs) ys = table_from-append (applied c.kind (entity c.key c.value) es) xs ys

pub table_snoc : (past : List Change) (c : Change) → table (past ++ c ∷ []) ≡ applied c.kind (entity c.key c.value) (table past)
unfolding table table_from
table_snoc past c = table_from-append [] past (c ∷ [])

pub changes_bytes-append : (xs ys : List Change) → changes_bytes (xs ++ ys) ≡ changes_bytes xs ++ changes_bytes ys
unfolding changes_bytes
changes_bytes-append [] ys = refl
changes_bytes-append (c ∷ xs) ys = rw (changes_bytes-append xs ys, append_assoc)
