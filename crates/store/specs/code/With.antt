-- The buffers of a machine while a file is added to it: more changes stand in them than contents, file rows and slots tell of.
use Rattle.std.specs.Prelude.{◌≡◌, List, [], ◌∷◌, ◌++◌, ℕ, ◌*◌, length}
use Rattle.names.specs.Name.{long_name_most}
use Rattle.store.specs.Change.{Change, changes_bytes}
use Rattle.store.specs.Machine.{Filed, Machine, with_files, files_most, changes_most, bytes_most}
use Rattle.store.specs.Image.{file_row, change_row, file_slot, padded, change_rows, file_rows, file_slots, contents_of}

-- Numbers behind the contents: the file rows, the change rows.
abbrev pub file_rows_part : List Filed → List ℕ
file_rows_part fs = padded (files_most * file_row) (file_rows 0 0 fs)

abbrev pub change_rows_part : List Change → List ℕ
change_rows_part cs = padded (changes_most * change_row) (change_rows 0 cs)

-- Bytes: study and version, the file slots, the change bytes.
abbrev pub names_part : List ℕ → List ℕ → List ℕ
names_part study version = padded long_name_most study ++ padded long_name_most version

abbrev pub slots_part : List Filed → List ℕ
slots_part fs = padded (files_most * file_slot) (file_slots fs)

abbrev pub change_bytes_part : List Change → List ℕ
change_bytes_part cs = padded bytes_most (changes_bytes cs)

-- The buffers of a machine with other change rows and change bytes than its own: those of a file that is being added stand behind them, while
-- contents, file rows and slots are still the machine's.
unfoldable pub numbers_with : Machine → List Change → List ℕ
numbers_with m cs = contents_of m ++ file_rows_part m.files ++ change_rows_part cs

unfoldable pub bytes_with : Machine → List Change → List ℕ
bytes_with m cs = names_part m.study m.version ++ slots_part m.files ++ change_bytes_part cs

-- Two buffers are those of m with the changes cs, which are c changes of b bytes.
pub record With (m : Machine) (cs : List Change) (ns bs : List ℕ) (c b : ℕ) : Type 0 where
  pub numbers : ns ≡ numbers_with m cs
  pub bytes : bs ≡ bytes_with m cs
  pub changes : c ≡ length cs
  pub packed : b ≡ length (changes_bytes cs)

-- The machine with one more standing file.
abbrev pub filing : Machine → Filed → Machine
filing m f = with_files m (m.files ++ f ∷ [])
