-- Tests of the layout that a function makes together.
use Rattle.std.specs.Prelude.{Bool, List, ℕ, ◌+◌, ◌-◌, ◌*◌, eqb, leb, ltb, take, drop}
use Rattle.names.specs.Name.{long_name_most}
use Rattle.names.specs.Pick.{pick, ◌and◌}
use Rattle.store.specs.Image.{contents_size, file_row, file_slot, change_row, study_length, version_length}
use Rattle.store.specs.code.Layout.{file_count, change_count, byte_count, zeros, slot_holds, files_at, oid_length, through_at, bytes_through_at, through_before}
use Rattle.store.specs.Machine.{files_most}
use Rattle.store.specs.code.Rows.{rows_at, packed_at, start_at}

-- The changes and bytes through file i.
abbrev pub throughs_fit : List ℕ → ℕ → Bool
throughs_fit ns i =
    leb (through_before ns i) (through_at ns i) and leb (through_at ns i) (change_count ns) and eqb (bytes_through_at ns i) (start_at ns (through_at ns i))

-- The names of the study and its version.
abbrev pub names_fit : List ℕ → List ℕ → Bool
names_fit ns bs = slot_holds (study_length ns) (take long_name_most bs) and slot_holds (version_length ns) (take long_name_most (drop long_name_most bs))

-- Numbers and bytes that nothing uses.
abbrev pub numbers_unused : List ℕ → Bool
numbers_unused ns =
    zeros (take (file_row * (files_most - file_count ns)) (drop (contents_size + file_row * file_count ns) ns)) and zeros (drop (rows_at + change_row * change_count ns) ns)

abbrev pub bytes_unused : List ℕ → List ℕ → Bool
bytes_unused ns bs =
    zeros (take (file_slot * (files_most - file_count ns)) (drop (files_at + file_slot * file_count ns) bs)) and zeros (drop (packed_at + byte_count ns) bs)

-- As much of a slot as a FileOID takes, also where its length says more.
unfoldable pub oid_size : List ℕ → ℕ → ℕ
oid_size ns i = pick (ltb (oid_length ns i) long_name_most) (oid_length ns i) long_name_most
