-- Changes, and what they leave live.
use Rattle.std.specs.Prelude.{Bool, true, false, not, ◌||◌, List, [], ◌∷◌, ◌++◌, ℕ, ◌-◌, eqb, take}
use Rattle.std.proofs.Math.Option.{Option, none, some}
use Rattle.names.specs.Bytes.{any}
use Rattle.names.specs.Key.{Key, same_key, covers, depth_of, names_used, is_key, packed}
use Rattle.names.specs.Name.{is_value}
use Rattle.names.specs.Pick.{◌and◌}

-- "A change is make (1), write (2, items only) or end (3)."
pub data Kind : Type 0 where
  make write end : Kind

unfoldable pub kind_number : Kind → ℕ
kind_number make = 1
kind_number write = 2
kind_number end = 3

-- A value; "length 0 is null".
abbrev pub Value : Type 0
Value = List ℕ

pub record Change : Type 0 where
  pub kind : Kind
  pub key : Key
  pub value : Value

abbrev pub change : Kind → Key → Value → Change
change d k v = record { kind = d; key = k; value = v }

-- An item has depth 5.
unfoldable pub is_item : Key → Bool
is_item k = eqb (depth_of k) 5

-- The key of the entity above.
unfoldable pub parent_of : Key → Key
parent_of k = take (names_used (depth_of k - 1)) k

unfoldable pub is_null : Value → Bool
is_null [] = true
is_null (c ∷ v) = false

unfoldable pub is_make : Kind → Bool
is_make make = true
is_make write = false
is_make end = false

unfoldable pub is_end : Kind → Bool
is_end make = false
is_end write = false
is_end end = true

-- Whether a change of this kind may be of an item, or not, with a null value, or not: "write (2, items only)", a value "for kinds 1 and 2 at depth 5".
unfoldable pub value_fits : Kind → Bool → Bool → Bool
value_fits make item null = item || null
value_fits write item null = item
value_fits end item null = null

-- The parts of a change are of their forms.
unfoldable pub is_change : Change → Bool
is_change c = is_key c.key and is_value c.value and value_fits c.kind (is_item c.key) (is_null c.value)

-- The change makes the entity; ends it, itself or by an ancestor; gives it its value.
unfoldable pub makes : Key → Change → Bool
makes k c = is_make c.kind and same_key c.key k

unfoldable pub ends : Key → Change → Bool
ends k c = is_end c.kind and covers c.key k

unfoldable pub gives : Key → Change → Bool
gives k c = not (is_end c.kind) and same_key c.key k

-- The later of two, where there is one.
unfoldable pub later : {A : Type 0} → Option A → Option A → Option A
later a none = a
later a (some b) = some b

unfoldable pub only_if : {A : Type 0} → Bool → A → Option A
only_if true a = some a
only_if false a = none

-- The changes that follow the last make of an entity, if it was made.
unfoldable pub since_made : List Change → Key → Option (List Change)
since_made [] k = none
since_made (c ∷ cs) k = later (only_if (makes k c) cs) (since_made cs k)

unfoldable pub not_ended : Key → Option (List Change) → Bool
not_ended k none = false
not_ended k (some since) = not (any (ends k) since)

-- "An entity is live if it was made and its last make is not followed by an end of itself or an ancestor."
unfoldable pub live : List Change → Key → Bool
live cs k = not_ended k (since_made cs k)

-- "An item's value is that of its last make or write."
unfoldable pub value_of : List Change → Key → Option Value
value_of [] k = none
value_of (c ∷ cs) k = later (only_if (gives k c) c.value) (value_of cs k)

-- "each used name as a length byte and its text, then the value for kinds 1 and 2 at depth 5"
unfoldable pub change_bytes : Change → List ℕ
change_bytes c = packed c.key ++ c.value

unfoldable pub changes_bytes : List Change → List ℕ
changes_bytes [] = []
changes_bytes (c ∷ cs) = change_bytes c ++ changes_bytes cs
