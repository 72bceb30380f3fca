-- What is read from the buffers of a machine while a file is added to it: the machine itself, whatever stands behind its changes, and the changes by places.
use mathlib.Core.Path.{◌≡◌, refl, ◌∙◌}
use mathlib.Core.Bool.{true}
use mathlib.Core.List.{List, [], ◌++◌, append_assoc}
use Prim.Native.Nat.{ℕ, ◌+◌, ◌-◌, ◌*◌, ◌≤◌}
use lib.ListN.{length, drop, replicate}
use Rattle.names.specs.Bytes.{all}
use Rattle.names.specs.Name.{long_name_most}
use Rattle.store.specs.Change.{Change, is_change, changes_bytes}
use Rattle.store.specs.Machine.{Machine, changes_of, obeys, files_most, changes_most, bytes_most}
use Rattle.store.specs.Image.{contents_size, file_row, change_row, file_slot, padded, change_rows, changes_in, machine_in, contents_of}
use Rattle.store.specs.code.Layout.{files_at, rows_fit}
use Rattle.store.specs.Outcomes.{buffers}
use Rattle.store.specs.code.Rows.{rows_at, packed_at, first_changes}
use Rattle.store.specs.code.With.{file_rows_part, change_rows_part, names_part, slots_part, change_bytes_part, numbers_with, bytes_with, With}
use Rattle.store.proofs.Images.Arrangement.{file_rows_part-length, names_part-length, slots_part-length}
use Rattle.store.proofs.Layouts.ChangesPlaced.{changes-placed}
use Rattle.store.proofs.Images.ImageLaws.{changes-read, parts_read, files-read-padded}
use Rattle.store.proofs.Layouts.ImageLaid.{after-second}
use Rattle.store.proofs.Tables.InTurn.{in_turn-changes}
use Rattle.store.proofs.Tables.OneChange.{changes_bytes-append}
use Rattle.store.proofs.Lists.FilledParts.{padded-length, padded-text}
use Rattle.store.proofs.Images.RowLaws.{change_rows-append}
use Rattle.store.proofs.Images.Rules.{rules_of, long-name-length}

-- The first changes from lists filled up with zeros.
changes-read-first : (cs more : List Change) (n k : ℕ) → all is_change cs ≡ true
    → changes_in (length cs) 0 (padded n (change_rows 0 (cs ++ more))) (padded k (changes_bytes (cs ++ more))) ≡ cs
unfolding padded
changes-read-first cs more n k e =
    let rows : List ℕ = change_rows (0 + length (changes_bytes cs)) more in
    let behind : List ℕ = changes_bytes more in
    rw (
      change_rows-append 0 cs more,
      changes_bytes-append cs more,
      append_assoc (change_rows 0 cs) rows (replicate (n - length (change_rows 0 cs ++ rows)) 0),
      append_assoc (changes_bytes cs) behind (replicate (k - length (changes_bytes cs ++ behind)) 0),
    )
    (changes-read cs 0 (rows ++ replicate (n - length (change_rows 0 cs ++ rows)) 0) (behind ++ replicate (k - length (changes_bytes cs ++ behind)) 0) e)

-- A machine is read back, whatever changes stand behind its own.
pub with_machine : (m : Machine) (more : List Change) → obeys m ≡ true
    → machine_in (buffers (numbers_with m (changes_of m.files ++ more)) (bytes_with m (changes_of m.files ++ more))) ≡ m
unfolding numbers_with bytes_with
with_machine m more e =
    let r = rules_of m e in
    let fs = m.files in
    let cs = changes_of fs in
    parts_read m (file_rows_part fs) (change_rows_part (cs ++ more)) (padded long_name_most m.study) (padded long_name_most m.version) (slots_part fs) (change_bytes_part (cs ++ more))
    (file_rows_part-length fs r.few-files)
    (padded-length long_name_most m.study (long-name-length m.study r.study))
    (padded-length long_name_most m.version (long-name-length m.version r.version))
    (slots_part-length fs r.few-files r.filed)
    (padded-text long_name_most m.study _)
    (padded-text long_name_most m.version _)
    (changes-read-first cs more (changes_most * change_row) bytes_most (in_turn-changes [] cs r.turns))
    (files-read-padded fs (files_most * file_row) (files_most * file_slot) _ _ r.filed)

-- Rows and bytes of the changes stand in the buffers, and the first of them by places are the first of the list.
module _ (m : Machine) (o : obeys m ≡ true) (cs : List Change) where
  rows_stand : drop rows_at (numbers_with m cs) ≡ change_rows 0 cs ++ replicate (changes_most * change_row - length (change_rows 0 cs)) 0
  unfolding numbers_with
  rows_stand =
      after-second (contents_of m) (file_rows_part m.files) (change_rows_part cs) contents_size (files_most * file_row) refl
      (file_rows_part-length m.files (rules_of m o).few-files)
      ∙ (unfold padded in refl)

  bytes_stand : drop packed_at (bytes_with m cs) ≡ changes_bytes cs ++ replicate (bytes_most - length (changes_bytes cs)) 0
  unfolding bytes_with
  bytes_stand =
      let r = rules_of m o in
      after-second (names_part m.study m.version) (slots_part m.files) (change_bytes_part cs) files_at (files_most * file_slot)
      (names_part-length m.study m.version r.study r.version) (slots_part-length m.files r.few-files r.filed)
      ∙ (unfold padded in refl)

  module _ (ns bs : List ℕ) (c b : ℕ) (w : With m cs ns bs c b) (formed : all is_change cs ≡ true) (few : b ≤ bytes_most) (xs ys : List Change) (e : cs ≡ xs ++ ys) where
    placed : (rows_fit ns bs (length xs) ≡ true) × (first_changes ns bs (length xs) ≡ xs)
    placed =
        rw (w.numbers, w.bytes)
        (changes-placed (numbers_with m cs) (bytes_with m cs) cs _ _ rows_stand bytes_stand formed (rw (← w.packed) few) xs ys e)

    pub with_rows : rows_fit ns bs (length xs) ≡ true
    with_rows = placed.0

    pub with_first : first_changes ns bs (length xs) ≡ xs
    with_first = placed.1
