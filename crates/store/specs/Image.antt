-- The store image: "A numbers buffer of 6,341 unsigned 32-bit numbers and a bytes buffer of 54,592."
use Rattle.std.specs.Prelude.{List, [], ◌∷◌, ◌++◌, ℕ, zero, suc, ◌+◌, ◌-◌, ◌*◌, eqb, length, take, drop, get_or, replicate}
use Rattle.std.proofs.Math.Option.{Option, none, some}
use Rattle.names.specs.Date.{date_size}
use Rattle.names.specs.Key.{depth_of, names_used, names_in, packed}
use Rattle.names.specs.Name.{long_name_most}
use Rattle.names.specs.Order.{same}
use Rattle.names.specs.Pick.{pick, ◌and◌}
use Rattle.store.specs.Change.{Kind, make, write, end, kind_number, Change, change_bytes, changes_bytes}
use Rattle.store.specs.Machine.{Filed, Machine, changes_of, obeys, files_most, changes_most, bytes_most}

-- The widths of the layout.
abbrev pub contents_size : ℕ
contents_size = 5

abbrev pub file_row : ℕ
file_row = 3

abbrev pub change_row : ℕ
change_row = 3

abbrev pub file_slot : ℕ
file_slot = long_name_most + date_size

abbrev pub numbers_size : ℕ
numbers_size = contents_size + files_most * file_row + changes_most * change_row

abbrev pub bytes_size : ℕ
bytes_size = long_name_most + long_name_most + files_most * file_slot + bytes_most

-- The contents that are read: files F, changes C, and the lengths of study and version.
abbrev pub file_count : List ℕ → ℕ
file_count ns = get_or ns 0 0

abbrev pub change_count : List ℕ → ℕ
change_count ns = get_or ns 1 0

abbrev pub study_at : ℕ
study_at = 3

abbrev pub version_at : ℕ
version_at = 4

abbrev pub study_length : List ℕ → ℕ
study_length ns = get_or ns study_at 0

abbrev pub version_length : List ℕ → ℕ
version_length ns = get_or ns version_at 0

-- "Unused numbers and bytes are 0."
unfoldable pub padded : ℕ → List ℕ → List ℕ
padded n s = s ++ replicate (n - length s) 0

-- "2,048 change rows of 3: kind, depth, end"; "A change's bytes start at the previous end"
abbrev pub row_with : ℕ → ℕ → ℕ → List ℕ
row_with kind depth to = kind ∷ depth ∷ to ∷ []

abbrev pub row_numbers : ℕ → Change → List ℕ
row_numbers start c = row_with (kind_number c.kind) (depth_of c.key) (start + length (change_bytes c))

unfoldable pub change_rows : ℕ → List Change → List ℕ
change_rows start [] = []
change_rows start (c ∷ cs) = row_numbers start c ++ change_rows (start + length (change_bytes c)) cs

-- "64 file rows of 3: FileOID length, changes through this file, bytes through it"
unfoldable pub file_rows : ℕ → ℕ → List Filed → List ℕ
file_rows through bytes_through [] = []
file_rows through bytes_through (f ∷ fs) =
    length f.oid ∷ (through + length f.changes) ∷ (bytes_through + length (changes_bytes f.changes))
    ∷ file_rows (through + length f.changes) (bytes_through + length (changes_bytes f.changes)) fs

-- "64 file slots of 83 (FileOID 64, date 19)"
abbrev pub slot_of : Filed → List ℕ
slot_of f = padded long_name_most f.oid ++ padded date_size f.date

unfoldable pub file_slots : List Filed → List ℕ
file_slots [] = []
file_slots (f ∷ fs) = slot_of f ++ file_slots fs

-- "Contents first, 5 numbers: files F, changes C, change bytes B, length of the StudyOID, length of the MetaDataVersionOID": counts, and what Open fixes.
abbrev pub counts_of : Machine → List ℕ
counts_of m = length m.files ∷ length (changes_of m.files) ∷ length (changes_bytes (changes_of m.files)) ∷ []

abbrev pub fixed_of : Machine → List ℕ
fixed_of m = length m.study ∷ length m.version ∷ []

abbrev pub contents_of : Machine → List ℕ
contents_of m = counts_of m ++ fixed_of m

unfoldable pub numbers_of : Machine → List ℕ
numbers_of m =
    contents_of m
    ++ padded (files_most * file_row) (file_rows 0 0 m.files)
    ++ padded (changes_most * change_row) (change_rows 0 (changes_of m.files))

-- "Bytes buffer: 64 for study, 64 for version, 64 file slots .., then change bytes."
unfoldable pub bytes_of : Machine → List ℕ
bytes_of m =
    padded long_name_most m.study
    ++ padded long_name_most m.version
    ++ padded (files_most * file_slot) (file_slots m.files)
    ++ padded bytes_most (changes_bytes (changes_of m.files))

-- The two lent buffers of a store.
pub record Buffers : Type 0 where
  pub numbers : List ℕ
  pub bytes : List ℕ

unfoldable pub image : Machine → Buffers
image m = record { numbers = numbers_of m; bytes = bytes_of m }

-- The machine that two buffers would be the image of, read by the numbers in them.
unfoldable pub kind_of : ℕ → Kind
kind_of n = pick (eqb n 1) make (pick (eqb n 2) write end)

unfoldable pub change_in : ℕ → ℕ → List ℕ → Change
change_in kind depth s =
    let key = names_in (names_used depth) s in
    record { kind = kind_of kind; key = key; value = drop (length (packed key)) s }

unfoldable pub changes_in : ℕ → ℕ → List ℕ → List ℕ → List Change
changes_in zero start rows s = []
changes_in (suc n) start rows s =
    let e = get_or rows 2 0 in
    change_in (get_or rows 0 0) (get_or rows 1 0) (take (e - start) s) ∷ changes_in n e (drop change_row rows) (drop (e - start) s)

-- The date that stands in its part of a slot: all of it.
unfoldable pub kept_in : List ℕ → List ℕ
kept_in s = s

unfoldable pub files_in : ℕ → ℕ → List ℕ → List ℕ → List Change → List Filed
files_in zero through rows slots cs = []
files_in (suc n) through rows slots cs =
    let count = get_or rows 1 0 - through in
    record { oid = take (get_or rows 0 0) slots; date = kept_in (take date_size (drop long_name_most slots)); changes = take count cs }
    ∷ files_in n (get_or rows 1 0) (drop file_row rows) (drop file_slot slots) (drop count cs)

unfoldable pub machine_in : Buffers → Machine
machine_in b =
    let ns = b.numbers in
    let bs = b.bytes in
    let slots = drop (long_name_most + long_name_most) bs in
    let cs = changes_in (change_count ns) 0 (drop (contents_size + files_most * file_row) ns) (drop (files_most * file_slot) slots) in
    record {
      study = take (study_length ns) bs;
      version = take (version_length ns) (drop long_name_most bs);
      files = files_in (file_count ns) 0 (drop contents_size ns) slots cs;
    }

-- An image is valid if a machine that obeys the rules has it for its image: that machine, or none.
unfoldable pub read_image : Buffers → Option Machine
read_image b =
    pick (obeys (machine_in b) and same (numbers_of (machine_in b)) b.numbers and same (bytes_of (machine_in b)) b.bytes) (some (machine_in b)) none
