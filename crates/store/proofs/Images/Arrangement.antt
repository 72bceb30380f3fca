-- The parts of the two buffers by name, and their lengths.
use mathlib.Core.Path.{◌≡◌}
use mathlib.Core.Bool.{true}
use mathlib.Core.List.{List}
use Prim.Native.Nat.{ℕ, ◌+◌, ◌*◌, ◌≤◌}
use native.Mathlib.Omega.{arith}
use lib.ListN.{length, length-append}
use Rattle.names.specs.Bytes.{all}
use Rattle.names.specs.Name.{long_name_most, is_long_name}
use Rattle.store.specs.Change.{Change, changes_bytes}
use Rattle.store.specs.Machine.{Filed, is_filed, files_most, changes_most, bytes_most}
use Rattle.store.specs.Image.{file_row, change_row, file_slot, change_rows, file_rows, file_slots}
use Rattle.store.proofs.Lists.FilledParts.{padded-length}
use Rattle.store.proofs.Images.RowLaws.{change_rows-length, file_rows-length, file_slots-length}
use Rattle.store.proofs.Images.Rules.{long-name-length}
unfoldable pub use Rattle.store.specs.code.With.{file_rows_part, change_rows_part, names_part, slots_part, change_bytes_part}

pub file_rows_part-length : (fs : List Filed) → length fs ≤ files_most → length (file_rows_part fs) ≡ files_most * file_row
file_rows_part-length fs h = padded-length (files_most * file_row) (file_rows 0 0 fs) (omega (arith, file_rows-length 0 0 fs))

pub change_rows_part-length : (cs : List Change) → length cs ≤ changes_most → length (change_rows_part cs) ≡ changes_most * change_row
change_rows_part-length cs h = padded-length (changes_most * change_row) (change_rows 0 cs) (omega (arith, change_rows-length 0 cs))

pub names_part-length : (study version : List ℕ) → is_long_name study ≡ true → is_long_name version ≡ true
    → length (names_part study version) ≡ long_name_most + long_name_most
names_part-length study version e f =
    rw (length-append, padded-length long_name_most study (long-name-length study e), padded-length long_name_most version (long-name-length version f))

pub slots_part-length : (fs : List Filed) → length fs ≤ files_most → all is_filed fs ≡ true → length (slots_part fs) ≡ files_most * file_slot
slots_part-length fs h e = padded-length (files_most * file_slot) (file_slots fs) (omega (arith, file_slots-length fs e))

pub change_bytes_part-length : (cs : List Change) → length (changes_bytes cs) ≤ bytes_most → length (change_bytes_part cs) ≡ bytes_most
change_bytes_part-length cs h = padded-length bytes_most (changes_bytes cs) h
