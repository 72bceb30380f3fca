-- The image by places: what stands in each row and slot of two buffers, whatever they hold. Contracts of inner functions cite it.
use Rattle.std.specs.Prelude.{List, [], ◌∷◌, ◌++◌, map, ℕ, zero, suc, ◌+◌, ◌-◌, ◌*◌, eqb, length, take, drop, get_or}
use Rattle.names.specs.Key.{Key, names_used, names_in, packed}
use Rattle.names.specs.Name.{long_name_most}
use Rattle.names.specs.Pick.{pick}
use Rattle.store.specs.Change.{Change, change, Value}
use Rattle.store.specs.Image.{contents_size, file_row, file_slot, change_row, kind_of}
use Rattle.store.specs.Machine.{files_most}
use Rattle.store.specs.Table.{Entity, entity}

-- Where the change rows and the change bytes begin.
abbrev pub rows_at : ℕ
rows_at = contents_size + files_most * file_row

abbrev pub packed_at : ℕ
packed_at = long_name_most + long_name_most + files_most * file_slot

-- The numbers of row i by their columns: "kind, depth, end".
unfoldable pub row_number : List ℕ → ℕ → ℕ → ℕ
row_number ns column i = get_or ns (rows_at + change_row * i + column) 0

abbrev pub kind_at : List ℕ → ℕ → ℕ
kind_at ns i = row_number ns 0 i

abbrev pub depth_at : List ℕ → ℕ → ℕ
depth_at ns i = row_number ns 1 i

abbrev pub end_at : List ℕ → ℕ → ℕ
end_at ns i = row_number ns 2 i

-- "A change's bytes start at the previous end (first: 0)".
unfoldable pub start_at : List ℕ → ℕ → ℕ
start_at ns i = pick (eqb i 0) 0 (end_at ns (i - 1))

-- Where the key of change i starts: with its bytes.
unfoldable pub key_start : List ℕ → ℕ → ℕ
key_start ns i = start_at ns i

-- The key of change i, from there on.
unfoldable pub key_at : List ℕ → List ℕ → ℕ → Key
key_at ns bs i = names_in (names_used (depth_at ns i)) (drop (packed_at + key_start ns i) bs)

-- Its value: what stands behind the key up to the change's end.
unfoldable pub value_at : List ℕ → List ℕ → ℕ → Value
value_at ns bs i =
    take (end_at ns i - key_start ns i - length (packed (key_at ns bs i))) (drop (packed_at + key_start ns i + length (packed (key_at ns bs i))) bs)

abbrev pub entity_at : List ℕ → List ℕ → ℕ → Entity
entity_at ns bs i = entity (key_at ns bs i) (value_at ns bs i)

abbrev pub change_at : List ℕ → List ℕ → ℕ → Change
change_at ns bs i = change (kind_of (kind_at ns i)) (key_at ns bs i) (value_at ns bs i)

-- The first c changes, in order.
unfoldable pub first_changes : List ℕ → List ℕ → ℕ → List Change
first_changes ns bs zero = []
first_changes ns bs (suc c) = first_changes ns bs c ++ change_at ns bs c ∷ []

-- The entities of a list of rows.
unfoldable pub entities_at : List ℕ → List ℕ → List ℕ → List Entity
entities_at ns bs rows = map (entity_at ns bs) rows
