-- The image of a machine that obeys the rules passes the tests of the layout, and its changes by places are the machine's.
use mathlib.Core.Path.{◌≡◌, refl, sym, ◌∙◌}
use mathlib.Core.Bool.{true}
use mathlib.Core.List.{List, [], ◌++◌, append_assoc, append-nil}
use Prim.Native.Nat.{ℕ, ◌+◌, ◌-◌, ◌*◌}
use native.Mathlib.Omega.{arith}
use lib.ListN.{length, take, drop, get_or, replicate, length-append, length-replicate}
use lib.Seq.{take_at, drop_at, drop-drop}
use Rattle.names.specs.Name.{long_name_most}
use Rattle.store.specs.Change.{Change, changes_bytes}
use Rattle.store.specs.Image.{contents_size, file_row, change_row, file_slot, padded, file_rows, file_slots, change_rows, numbers_of, bytes_of, contents_of}
use Rattle.store.specs.code.Layout.{file_count, change_count, byte_count, zeros, files_at, files_fit, rows_fit}
use Rattle.store.specs.Machine.{Filed, Machine, changes_of, files_most, changes_most, bytes_most}
use Rattle.store.specs.code.Rows.{rows_at, packed_at, start_at, first_changes}
use Rattle.store.proofs.Images.Arrangement.{file_rows_part, change_rows_part, names_part, slots_part, change_bytes_part, file_rows_part-length, names_part-length, slots_part-length}
use Rattle.store.proofs.Layouts.ChangesPlaced.{placed-start, changes-placed}
use Rattle.store.proofs.Layouts.FileFits.{slot_holds_by}
use Rattle.store.proofs.Layouts.FilesLaid.{first_files}
use Rattle.store.proofs.Layouts.FilesPlaced.{padded-holds, placed-before, files-placed}
use Rattle.store.proofs.Layouts.BuffersLaid.{LaidOut}
use Rattle.store.proofs.Lists.FilledParts.{padded-length}
use Rattle.store.proofs.Images.RowLaws.{change_rows-length, file_rows-length, file_slots-length}
use Rattle.store.proofs.Images.Rules.{Rules, long-name-length}
use Rattle.store.proofs.Lists.Zeros.{zeros-replicate, padded-behind}
use Rattle.store.proofs.Tables.InTurn.{in_turn-changes}

-- Three parts in a row, as both buffers have them.
module _ (a b c : List ℕ) (i j : ℕ) (first : length a ≡ i) where
  after_first : drop i (a ++ b ++ c) ≡ b ++ c
  after_first = rw append_assoc (drop_at a (b ++ c) i first)

  pub after-second : length b ≡ j → drop (i + j) (a ++ b ++ c) ≡ c
  after-second second = drop_at (a ++ b) c (i + j) (rw (length-append, first, second))

-- What is not used of a part.
unused_part : (n k : ℕ) (s t : List ℕ) → length s ≡ k → zeros (take (n - k) (drop k (padded n s ++ t))) ≡ true
unfolding padded
unused_part n k s t e =
    rw (e, append_assoc s (replicate (n - k) 0) t, drop_at s (replicate (n - k) 0 ++ t) k e, take_at (replicate (n - k) 0) t (n - k) (length-replicate {A = ℕ} (n - k) 0))
    (zeros-replicate (n - k))

unused_rest : (n k : ℕ) (s : List ℕ) → length s ≡ k → zeros (drop k (padded n s)) ≡ true
unused_rest n k s e = rw (← e) (padded-behind n s)

module _ (m : Machine) (rules : Rules m) where
  -- The contents.
  count-files : file_count (numbers_of m) ≡ length m.files
  unfolding numbers_of
  count-files = refl

  pub count-changes : change_count (numbers_of m) ≡ length (changes_of m.files)
  unfolding numbers_of
  count-changes = refl

  count-bytes : byte_count (numbers_of m) ≡ length (changes_bytes (changes_of m.files))
  unfolding numbers_of
  count-bytes = refl

  count-study : get_or (numbers_of m) 3 0 ≡ length m.study
  unfolding numbers_of
  count-study = refl

  count-version : get_or (numbers_of m) 4 0 ≡ length m.version
  unfolding numbers_of
  count-version = refl

  -- The parts.
  from_rows : drop contents_size (numbers_of m) ≡ file_rows_part m.files ++ change_rows_part (changes_of m.files)
  unfolding numbers_of
  from_rows = after_first (contents_of m) (file_rows_part m.files) (change_rows_part (changes_of m.files)) contents_size 0 refl

  from_change-rows : drop rows_at (numbers_of m) ≡ change_rows_part (changes_of m.files)
  unfolding numbers_of
  from_change-rows =
      after-second (contents_of m) (file_rows_part m.files) (change_rows_part (changes_of m.files)) contents_size (files_most * file_row) refl
      (file_rows_part-length m.files rules.few-files)

  from_slots : drop files_at (bytes_of m) ≡ slots_part m.files ++ change_bytes_part (changes_of m.files)
  unfolding bytes_of
  from_slots =
      after_first (names_part m.study m.version) (slots_part m.files) (change_bytes_part (changes_of m.files)) files_at 0
      (names_part-length m.study m.version rules.study rules.version)

  from_change-bytes : drop packed_at (bytes_of m) ≡ change_bytes_part (changes_of m.files)
  unfolding bytes_of
  from_change-bytes =
      after-second (names_part m.study m.version) (slots_part m.files) (change_bytes_part (changes_of m.files)) files_at (files_most * file_slot)
      (names_part-length m.study m.version rules.study rules.version) (slots_part-length m.files rules.few-files rules.filed)

  study-slot : take long_name_most (bytes_of m) ≡ padded long_name_most m.study
  unfolding bytes_of
  study-slot =
      rw (append_assoc, append_assoc)
      (take_at (padded long_name_most m.study) _ long_name_most (padded-length long_name_most m.study (long-name-length m.study rules.study)))

  version-slot : take long_name_most (drop long_name_most (bytes_of m)) ≡ padded long_name_most m.version
  unfolding bytes_of
  version-slot =
      let behind : List ℕ = slots_part m.files ++ change_bytes_part (changes_of m.files) in
      let study : length (padded long_name_most m.study) ≡ long_name_most = padded-length long_name_most m.study (long-name-length m.study rules.study) in
      let version : length (padded long_name_most m.version) ≡ long_name_most = padded-length long_name_most m.version (long-name-length m.version rules.version) in
      rw (append_assoc, append_assoc, drop_at (padded long_name_most m.study) (padded long_name_most m.version ++ behind) long_name_most study)
      (take_at (padded long_name_most m.version) behind long_name_most version)

  -- Rows, slots and change bytes, and what stands behind them.
  file-rows_stand : drop contents_size (numbers_of m)
      ≡ file_rows 0 0 m.files ++ (replicate (files_most * file_row - length (file_rows 0 0 m.files)) 0 ++ change_rows_part (changes_of m.files))
  file-rows_stand = from_rows ∙ (unfold padded in append_assoc (file_rows 0 0 m.files) (replicate (files_most * file_row - length (file_rows 0 0 m.files)) 0) (change_rows_part (changes_of m.files)))

  change-rows_stand : drop rows_at (numbers_of m)
      ≡ change_rows 0 (changes_of m.files) ++ replicate (changes_most * change_row - length (change_rows 0 (changes_of m.files))) 0
  change-rows_stand = from_change-rows ∙ (unfold padded in refl)

  slots_stand : drop files_at (bytes_of m)
      ≡ file_slots m.files ++ (replicate (files_most * file_slot - length (file_slots m.files)) 0 ++ change_bytes_part (changes_of m.files))
  slots_stand = from_slots ∙ (unfold padded in append_assoc (file_slots m.files) (replicate (files_most * file_slot - length (file_slots m.files)) 0) (change_bytes_part (changes_of m.files)))

  change-bytes_stand : drop packed_at (bytes_of m)
      ≡ changes_bytes (changes_of m.files) ++ replicate (bytes_most - length (changes_bytes (changes_of m.files))) 0
  change-bytes_stand = from_change-bytes ∙ (unfold padded in refl)

  -- The changes and the files by places.
  changes-start : (cs ds : List Change) → changes_of m.files ≡ cs ++ ds → start_at (numbers_of m) (length cs) ≡ length (changes_bytes cs)
  changes-start = placed-start (numbers_of m) (bytes_of m) (changes_of m.files) _ _ change-rows_stand change-bytes_stand

  changes_fit : (cs ds : List Change) → changes_of m.files ≡ cs ++ ds
      → (rows_fit (numbers_of m) (bytes_of m) (length cs) ≡ true) × (first_changes (numbers_of m) (bytes_of m) (length cs) ≡ cs)
  changes_fit =
      changes-placed (numbers_of m) (bytes_of m) (changes_of m.files) _ _ change-rows_stand change-bytes_stand (in_turn-changes [] (changes_of m.files) rules.turns) rules.few_bytes

  files_fit_lem : (fs gs : List Filed) → m.files ≡ fs ++ gs
      → (files_fit (numbers_of m) (bytes_of m) (length fs) ≡ true) × (first_files (numbers_of m) (bytes_of m) (changes_of m.files) (length fs) ≡ fs)
  files_fit_lem =
      files-placed (numbers_of m) (bytes_of m) m.files _ _ file-rows_stand slots_stand rules.filed rules.distinct_oids rules.dates count-changes changes-start

  pub image-changes : first_changes (numbers_of m) (bytes_of m) (change_count (numbers_of m)) ≡ changes_of m.files
  image-changes = rw count-changes (changes_fit (changes_of m.files) [] (sym (append-nil (changes_of m.files)))).1

  pub image_laid : LaidOut (numbers_of m) (bytes_of m)
  image_laid =
      let all-files : m.files ≡ m.files ++ [] = sym (append-nil m.files) in
      let all-changes : changes_of m.files ≡ changes_of m.files ++ [] = sym (append-nil (changes_of m.files)) in
      let rows_left : file_row * (files_most - length m.files) ≡ files_most * file_row - file_row * length m.files = omega arith in
      let slots_left : file_slot * (files_most - length m.files) ≡ files_most * file_slot - file_slot * length m.files = omega arith in
      record {
        few-files = rw count-files rules.few-files;
        few-changes = rw count-changes rules.few-changes;
        few_bytes = rw count-bytes rules.few_bytes;
        all-changes = rw (count-files, count-changes) (placed-before (numbers_of m) (bytes_of m) m.files _ _ file-rows_stand slots_stand rules.filed m.files [] all-files);
        all-bytes = rw (count-changes, count-bytes) (changes-start (changes_of m.files) [] all-changes);
        study = rw (count-study, study-slot) (slot_holds_by (length m.study) (padded long_name_most m.study) (padded-holds m.study rules.study));
        version = rw (count-version, version-slot) (slot_holds_by (length m.version) (padded long_name_most m.version) (padded-holds m.version rules.version));
        files = rw count-files (files_fit_lem m.files [] all-files).0;
        rows = rw count-changes (changes_fit (changes_of m.files) [] all-changes).0;
        file-rows_unused =
            rw (count-files, rows_left, ← drop-drop (file_row * length m.files) contents_size (numbers_of m), from_rows)
            (unused_part (files_most * file_row) (file_row * length m.files) (file_rows 0 0 m.files) (change_rows_part (changes_of m.files)) (file_rows-length 0 0 m.files));
        change-rows_unused =
            rw (count-changes, ← drop-drop (change_row * length (changes_of m.files)) rows_at (numbers_of m), from_change-rows)
            (unused_rest (changes_most * change_row) (change_row * length (changes_of m.files)) (change_rows 0 (changes_of m.files)) (change_rows-length 0 (changes_of m.files)));
        slots_unused =
            rw (count-files, slots_left, ← drop-drop (file_slot * length m.files) files_at (bytes_of m), from_slots)
            (unused_part (files_most * file_slot) (file_slot * length m.files) (file_slots m.files) (change_bytes_part (changes_of m.files)) (file_slots-length m.files rules.filed));
        bytes_unused_lem =
            rw (count-bytes, ← drop-drop (length (changes_bytes (changes_of m.files))) packed_at (bytes_of m), from_change-bytes)
            (unused_rest bytes_most (length (changes_bytes (changes_of m.files))) (changes_bytes (changes_of m.files)) refl);
      }
