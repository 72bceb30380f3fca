-- "this layout holds": the tests of an image by places, in the order of its parts. Contracts of inner functions cite it; that they and the changes
-- in turn say exactly what `read_image` says is a law.
use Rattle.std.specs.Prelude.{◌≡◌, bit_or, Bool, true, false, not, ◌||◌, List, ℕ, zero, suc, ◌+◌, ◌-◌, ◌*◌, eqb, leb, take, drop, get_or}
use Rattle.std.proofs.Math.Option.{Option, none, some}
use Rattle.names.specs.Bytes.{all}
use Rattle.names.specs.Date.{date_size, is_date, not_later}
use Rattle.names.specs.Key.{names_used}
use Rattle.names.specs.code.HeldKey.{KeyRead, read_key}
use Rattle.names.specs.Name.{long_name_most, is_long_name}
use Rattle.names.specs.Order.{same}
use Rattle.names.specs.Pick.{pick, ◌and◌}
use Rattle.store.specs.Change.{is_change}
use Rattle.store.specs.Image.{contents_size, file_row, file_slot, change_row, kept_in, study_length, version_length}
use Rattle.store.specs.Machine.{files_most, changes_most, bytes_most}
use Rattle.store.specs.code.Rows.{rows_at, packed_at, kind_at, depth_at, end_at, start_at, change_at}
pub use Rattle.store.specs.Image.{file_count, change_count}

-- The change bytes B of the contents.
abbrev pub byte_count : List ℕ → ℕ
byte_count ns = get_or ns 2 0

unfoldable pub zeros : List ℕ → Bool
zeros s = all (λ x. eqb x 0) s

-- What a type says of its values as numbers: its zero, its equality, and the bits of two joined.
pub record IsNumbered {T : Type 0} (is_zero : T → Type 0) (equal : T → T → Bool) (joins : T → T → T → Type 0) (number : T → ℕ) : Type 0 where
  pub zero : (x : T) → is_zero x → number x ≡ 0
  pub same : (x y : T) → equal x y ≡ eqb (number x) (number y)
  pub joined : (x y z : T) → joins x y z → number z ≡ bit_or (number x) (number y)

-- A slot of 64 bytes holds a long name of this length, and zeros behind it.
unfoldable pub slot_holds : ℕ → List ℕ → Bool
slot_holds n slot = leb n long_name_most and is_long_name (take n slot) and zeros (drop n slot)

-- The row and the slot of file i.
abbrev pub files_at : ℕ
files_at = long_name_most + long_name_most

-- The numbers of its row by their columns: "FileOID length, changes through this file, bytes through it".
unfoldable pub file_number : List ℕ → ℕ → ℕ → ℕ
file_number ns column i = get_or ns (contents_size + file_row * i + column) 0

abbrev pub oid_length : List ℕ → ℕ → ℕ
oid_length ns i = file_number ns 0 i

abbrev pub through_at : List ℕ → ℕ → ℕ
through_at ns i = file_number ns 1 i

abbrev pub bytes_through_at : List ℕ → ℕ → ℕ
bytes_through_at ns i = file_number ns 2 i

-- Changes or bytes through the files before file i, by the column.
unfoldable pub through_files : List ℕ → ℕ → ℕ → ℕ
through_files ns column i = pick (eqb i 0) 0 (file_number ns column (i - 1))

abbrev pub through_before : List ℕ → ℕ → ℕ
through_before ns i = through_files ns 1 i

abbrev pub bytes_before : List ℕ → ℕ → ℕ
bytes_before ns i = through_files ns 2 i

unfoldable pub oid_slot : List ℕ → ℕ → List ℕ
oid_slot bs i = take long_name_most (drop (files_at + file_slot * i) bs)

unfoldable pub oid_at : List ℕ → List ℕ → ℕ → List ℕ
oid_at ns bs i = take (oid_length ns i) (oid_slot bs i)

unfoldable pub date_at : List ℕ → ℕ → List ℕ
date_at bs i = kept_in (take date_size (drop (files_at + file_slot * i + long_name_most) bs))

-- FileOID i is none of the first n.
unfoldable pub new_oid : List ℕ → List ℕ → ℕ → ℕ → Bool
new_oid ns bs i zero = true
new_oid ns bs i (suc n) = not (same (oid_at ns bs i) (oid_at ns bs n)) and new_oid ns bs i n

-- File i: its FileOID, its date, not before the one before it, its throughs, and a FileOID that none before it has. "bytes through a file is the end of
-- the last change through it (0 if none)".
unfoldable pub file_fits : List ℕ → List ℕ → ℕ → Bool
file_fits ns bs i =
    slot_holds (oid_length ns i) (oid_slot bs i)
    and is_date (date_at bs i)
    and (eqb i 0 || not_later (date_at bs (i - 1)) (date_at bs i))
    and leb (through_before ns i) (through_at ns i)
    and leb (through_at ns i) (change_count ns)
    and eqb (bytes_through_at ns i) (start_at ns (through_at ns i))
    and new_oid ns bs i i

unfoldable pub files_fit : List ℕ → List ℕ → ℕ → Bool
files_fit ns bs zero = true
files_fit ns bs (suc n) = files_fit ns bs n and file_fits ns bs n

-- Row i: kind and depth are such, its end is not before its start nor past the change bytes, its key's names stand whole in its bytes, and the change is
-- of its form.
unfoldable pub row_bytes : List ℕ → List ℕ → ℕ → List ℕ
row_bytes ns bs i = take (end_at ns i - start_at ns i) (drop (packed_at + start_at ns i) bs)

unfoldable pub is_whole : Option KeyRead → Bool
is_whole none = false
is_whole (some r) = true

unfoldable pub row_fits : List ℕ → List ℕ → ℕ → Bool
row_fits ns bs i =
    leb 1 (kind_at ns i)
    and leb (kind_at ns i) 3
    and leb 1 (depth_at ns i)
    and leb (depth_at ns i) 5
    and leb (start_at ns i) (end_at ns i)
    and leb (end_at ns i) bytes_most
    and is_whole (read_key (names_used (depth_at ns i)) (row_bytes ns bs i))
    and is_change (change_at ns bs i)

unfoldable pub rows_fit : List ℕ → List ℕ → ℕ → Bool
rows_fit ns bs zero = true
rows_fit ns bs (suc n) = rows_fit ns bs n and row_fits ns bs n

-- The contents agree with the rows: "the last ones equal C and B, with F 0 both are 0".
unfoldable pub contents_fit : List ℕ → Bool
contents_fit ns =
    leb (file_count ns) files_most
    and leb (change_count ns) changes_most
    and leb (byte_count ns) bytes_most
    and eqb (through_before ns (file_count ns)) (change_count ns)
    and eqb (start_at ns (change_count ns)) (byte_count ns)

-- "Unused numbers and bytes are 0."
unfoldable pub unused_zero : List ℕ → List ℕ → Bool
unused_zero ns bs =
    zeros (take (file_row * (files_most - file_count ns)) (drop (contents_size + file_row * file_count ns) ns))
    and zeros (drop (rows_at + change_row * change_count ns) ns)
    and zeros (take (file_slot * (files_most - file_count ns)) (drop (files_at + file_slot * file_count ns) bs))
    and zeros (drop (packed_at + byte_count ns) bs)

unfoldable pub laid_out : List ℕ → List ℕ → Bool
laid_out ns bs =
    contents_fit ns
    and slot_holds (study_length ns) (take long_name_most bs)
    and slot_holds (version_length ns) (take long_name_most (drop long_name_most bs))
    and files_fit ns bs (file_count ns)
    and rows_fit ns bs (change_count ns)
    and unused_zero ns bs
