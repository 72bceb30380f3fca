-- Buffers that pass the tests of the layout are the image of the machine that is read from them, and it obeys the rules if its changes are allowed in turn.
use mathlib.Core.Path.{◌≡◌, ◌∙◌}
use mathlib.Core.Bool.{true}
use mathlib.Core.List.{List, [], ◌++◌, append_assoc}
use Prim.Native.Nat.{ℕ, ◌+◌, ◌-◌, ◌*◌, ◌≤◌}
use native.Mathlib.Omega.{arith}
use lib.Dec.{eqb, leb}
use lib.ListN.{length, take, drop, get_or, length-drop, take-append-drop}
use lib.Seq.{length-take-le, take_all, take-take, drop-drop}
use borrow.Author.Tests.{leb-true, le-leb, eqb-true, eq-eqb}
use Rattle.names.specs.Name.{long_name_most}
use Rattle.names.specs.Pick.{◌and◌}
use Rattle.names.proofs.Tests.{and_l, and_r}
use Rattle.names.proofs.Walk.{drop-take}
use Rattle.store.specs.Change.{Change, changes_bytes}
use Rattle.store.specs.Image.{contents_size, file_row, change_row, file_slot, numbers_size, bytes_size, padded, file_rows, file_slots, change_rows, numbers_of, bytes_of, image, machine_in, study_length, version_length}
use Rattle.store.specs.code.Layout.{file_count, change_count, byte_count, zeros, slot_holds, files_at, through_before, files_fit, rows_fit, contents_fit, unused_zero, laid_out}
use Rattle.store.specs.Machine.{Machine, changes_of, in_turn, obeys, files_most, changes_most, bytes_most}
use Rattle.store.specs.code.Rows.{rows_at, packed_at, start_at, first_changes}
use Rattle.store.proofs.Layouts.ChangesLaid.{first_changes-length, laid_bytes, laid_bytes-length, laid_rows, laid_changes_in}
use Rattle.store.proofs.Layouts.FileFits.{slot-holds, slot-padded}
use Rattle.store.proofs.Layouts.FileRules.{files-distinct, files_dates}
use Rattle.store.proofs.Layouts.FilesLaid.{first_files, first_files_length, files-formed, files-changes, files_slots, files-files_in, files-rows}
use Rattle.store.proofs.Lists.RowPlaces.{columns_from, columns_of}
use Rattle.store.proofs.Images.Rules.{obeys_by}
use Rattle.store.proofs.Lists.Zeros.{padded-take}

-- What the tests say, one by one.
pub record LaidOut (ns bs : List ℕ) : Type 0 where
  pub few-files : file_count ns ≤ files_most
  pub few-changes : change_count ns ≤ changes_most
  pub few_bytes : byte_count ns ≤ bytes_most
  pub all-changes : through_before ns (file_count ns) ≡ change_count ns
  pub all-bytes : start_at ns (change_count ns) ≡ byte_count ns
  pub study : slot_holds (study_length ns) (take long_name_most bs) ≡ true
  pub version : slot_holds (version_length ns) (take long_name_most (drop long_name_most bs)) ≡ true
  pub files : files_fit ns bs (file_count ns) ≡ true
  pub rows : rows_fit ns bs (change_count ns) ≡ true
  pub file-rows_unused : zeros (take (file_row * (files_most - file_count ns)) (drop (contents_size + file_row * file_count ns) ns)) ≡ true
  pub change-rows_unused : zeros (drop (rows_at + change_row * change_count ns) ns) ≡ true
  pub slots_unused : zeros (take (file_slot * (files_most - file_count ns)) (drop (files_at + file_slot * file_count ns) bs)) ≡ true
  pub bytes_unused_lem : zeros (drop (packed_at + byte_count ns) bs) ≡ true

module _ (ns bs : List ℕ) where
  pub laid_out_lem : laid_out ns bs ≡ true → LaidOut ns bs
  unfolding laid_out contents_fit unused_zero
  laid_out_lem e =
      let c = and_l (contents_fit ns) _ e in
      let c1 = and_r (leb (file_count ns) files_most) _ c in
      let c2 = and_r (leb (change_count ns) changes_most) _ c1 in
      let c3 = and_r (leb (byte_count ns) bytes_most) _ c2 in
      let e1 = and_r (contents_fit ns) _ e in
      let e2 = and_r (slot_holds (study_length ns) (take long_name_most bs)) _ e1 in
      let e3 = and_r (slot_holds (version_length ns) (take long_name_most (drop long_name_most bs))) _ e2 in
      let e4 = and_r (files_fit ns bs (file_count ns)) _ e3 in
      let u = and_r (rows_fit ns bs (change_count ns)) _ e4 in
      let u1 = and_r (zeros (take (file_row * (files_most - file_count ns)) (drop (contents_size + file_row * file_count ns) ns))) _ u in
      let u2 = and_r (zeros (drop (rows_at + change_row * change_count ns) ns)) _ u1 in
      record {
        few-files = leb-true _ _ (and_l _ _ c);
        few-changes = leb-true _ _ (and_l _ _ c1);
        few_bytes = leb-true _ _ (and_l _ _ c2);
        all-changes = eqb-true _ _ (and_l _ _ c3);
        all-bytes = eqb-true _ _ (and_r (eqb (through_before ns (file_count ns)) (change_count ns)) _ c3);
        study = and_l _ _ e1;
        version = and_l _ _ e2;
        files = and_l _ _ e3;
        rows = and_l _ _ e4;
        file-rows_unused = and_l _ _ u;
        change-rows_unused = and_l _ _ u1;
        slots_unused = and_l _ _ u2;
        bytes_unused_lem = and_r (zeros (take (file_slot * (files_most - file_count ns)) (drop (files_at + file_slot * file_count ns) bs))) _ u2;
      }

  pub laid_out_by : LaidOut ns bs → laid_out ns bs ≡ true
  unfolding laid_out contents_fit unused_zero ◌and◌
  laid_out_by l =
      rw (
        le-leb _ _ l.few-files,
        le-leb _ _ l.few-changes,
        le-leb _ _ l.few_bytes,
        eq-eqb _ _ l.all-changes,
        eq-eqb _ _ l.all-bytes,
        l.study,
        l.version,
        l.files,
        l.rows,
        l.file-rows_unused,
        l.change-rows_unused,
        l.slots_unused,
      )
      l.bytes_unused_lem

-- A part of a buffer, n long from base on, of which k are used.
part-padded : (n k base : ℕ) (l : List ℕ) → base + n ≤ length l → k ≤ n → zeros (take (n - k) (drop (base + k) l)) ≡ true
    → padded n (take k (drop base l)) ≡ take n (drop base l)
part-padded n k base l h g e =
    let s : length (take n (drop base l)) ≡ n = length-take-le n (drop base l) (omega (arith, length-drop base l)) in
    rw (← take-take k n (drop base l) g) (padded-take n k (take n (drop base l)) s g (rw (drop-take k n (drop base l), drop-drop k base l) e))

-- The parts of the buffers in a row.
contents-first : (l : List ℕ) (n : ℕ) → n ≤ length l → columns_from 0 n (λ k. get_or l k 0) ++ drop n l ≡ l
contents-first l n h = rw (← columns_of l n 0 (omega arith)) (take-append-drop n l)

-- A part and what stands behind it.
next-part : (n base : ℕ) (l : List ℕ) → take n (drop base l) ++ drop (base + n) l ≡ drop base l
next-part n base l = rw (← drop-drop n base l) (take-append-drop n (drop base l))

numbers_parts : (ns : List ℕ) → length ns ≡ numbers_size
    → columns_from 0 contents_size (λ k. get_or ns k 0) ++ take (files_most * file_row) (drop contents_size ns) ++ drop rows_at ns ≡ ns
numbers_parts ns h =
    rw (append_assoc (columns_from 0 contents_size (λ k. get_or ns k 0)) (take (files_most * file_row) (drop contents_size ns)) (drop rows_at ns), next-part (files_most * file_row) contents_size ns)
    (contents-first ns contents_size (omega arith))

bytes_parts : (bs : List ℕ)
    → take long_name_most bs ++ take long_name_most (drop long_name_most bs) ++ take (files_most * file_slot) (drop files_at bs) ++ drop packed_at bs ≡ bs
bytes_parts bs =
    rw (
      append_assoc (take long_name_most bs ++ take long_name_most (drop long_name_most bs)) (take (files_most * file_slot) (drop files_at bs)) (drop packed_at bs),
      next-part (files_most * file_slot) files_at bs,
      append_assoc (take long_name_most bs) (take long_name_most (drop long_name_most bs)) (drop files_at bs),
      next-part long_name_most long_name_most bs,
    )
    (take-append-drop long_name_most bs)

-- The machine by places.
unfoldable pub machine_at : List ℕ → List ℕ → Machine
machine_at ns bs =
    record {
      study = take (study_length ns) bs;
      version = take (version_length ns) (drop long_name_most bs);
      files = first_files ns bs (first_changes ns bs (change_count ns)) (file_count ns);
    }

module _ (ns bs : List ℕ) (numbers-size : length ns ≡ numbers_size) (bytes-size : length bs ≡ bytes_size) (laid : LaidOut ns bs) where
  pub laid_machine : machine_in record { numbers = ns; bytes = bs } ≡ machine_at ns bs
  unfolding machine_in machine_at
  laid_machine =
      rw (
        drop-drop (files_most * file_slot) files_at bs,
        laid_changes_in ns bs bytes-size (change_count ns) laid.rows,
        files-files_in ns bs (first_changes ns bs (change_count ns)) (file_count ns) laid.files,
      )

  -- Its changes.
  pub machine-changes : changes_of (machine_at ns bs).files ≡ first_changes ns bs (change_count ns)
  unfolding machine_at
  machine-changes =
      let cs : List Change = first_changes ns bs (change_count ns) in
      files-changes ns bs cs (file_count ns) laid.files ∙ rw laid.all-changes (take_all (change_count ns) cs (omega (arith, first_changes-length ns bs (change_count ns))))

  machine-bytes : length (changes_bytes (first_changes ns bs (change_count ns))) ≡ byte_count ns
  machine-bytes = laid_bytes-length ns bs bytes-size (change_count ns) laid.rows ∙ laid.all-bytes

  -- The names of study and version, as their slots hold them.
  study-slot : take (study_length ns) (take long_name_most bs) ≡ take (study_length ns) bs
  study-slot = take-take (study_length ns) long_name_most bs (slot-holds _ _ laid.study).short

  version-slot : take (version_length ns) (take long_name_most (drop long_name_most bs)) ≡ take (version_length ns) (drop long_name_most bs)
  version-slot = take-take (version_length ns) long_name_most (drop long_name_most bs) (slot-holds _ _ laid.version).short

  machine-study : padded long_name_most (take (study_length ns) bs) ≡ take long_name_most bs
  machine-study =
      rw (← study-slot) (slot-padded (study_length ns) (take long_name_most bs) (slot-holds _ _ laid.study) (length-take-le long_name_most bs (omega arith)))

  machine-version : padded long_name_most (take (version_length ns) (drop long_name_most bs)) ≡ take long_name_most (drop long_name_most bs)
  machine-version =
      rw (← version-slot)
      (slot-padded (version_length ns) (take long_name_most (drop long_name_most bs)) (slot-holds _ _ laid.version)
      (length-take-le long_name_most (drop long_name_most bs) (omega (arith, length-drop long_name_most bs))))

  -- The parts that its files and changes fill.
  machine-file-rows : padded (files_most * file_row) (file_rows 0 0 (machine_at ns bs).files) ≡ take (files_most * file_row) (drop contents_size ns)
  unfolding machine_at
  machine-file-rows =
      let few = laid.few-files in
      let unused : file_row * (files_most - file_count ns) ≡ files_most * file_row - file_row * file_count ns = omega arith in
      rw (files-rows ns bs numbers-size bytes-size laid.rows (file_count ns) laid.files few)
      (part-padded (files_most * file_row) (file_row * file_count ns) contents_size ns (omega arith) (omega arith) (rw unused at laid.file-rows_unused))

  machine-change-rows : padded (changes_most * change_row) (change_rows 0 (first_changes ns bs (change_count ns))) ≡ drop rows_at ns
  machine-change-rows =
      let few = laid.few-changes in
      rw (laid_rows ns bs bytes-size numbers-size (change_count ns) laid.rows few)
      (padded-take (changes_most * change_row) (change_row * change_count ns) (drop rows_at ns) (omega (arith, length-drop rows_at ns)) (omega arith)
      (rw (drop-drop (change_row * change_count ns) rows_at ns) laid.change-rows_unused))

  machine_slots : padded (files_most * file_slot) (file_slots (machine_at ns bs).files) ≡ take (files_most * file_slot) (drop files_at bs)
  unfolding machine_at
  machine_slots =
      let few = laid.few-files in
      let unused : file_slot * (files_most - file_count ns) ≡ files_most * file_slot - file_slot * file_count ns = omega arith in
      rw (files_slots ns bs (first_changes ns bs (change_count ns)) bytes-size (file_count ns) laid.files few)
      (part-padded (files_most * file_slot) (file_slot * file_count ns) files_at bs (omega arith) (omega arith) (rw unused at laid.slots_unused))

  machine-change-bytes : padded bytes_most (changes_bytes (first_changes ns bs (change_count ns))) ≡ drop packed_at bs
  machine-change-bytes =
      rw (laid_bytes ns bs bytes-size (change_count ns) laid.rows, laid.all-bytes)
      (padded-take bytes_most (byte_count ns) (drop packed_at bs) (omega (arith, length-drop packed_at bs)) laid.few_bytes
      (rw (drop-drop (byte_count ns) packed_at bs) laid.bytes_unused_lem))

  -- The contents.
  pub machine-files-length : length (machine_at ns bs).files ≡ file_count ns
  unfolding machine_at
  machine-files-length = first_files_length ns bs (first_changes ns bs (change_count ns)) (file_count ns)

  machine-study-length : length (machine_at ns bs).study ≡ study_length ns
  unfolding machine_at
  machine-study-length = let short = (slot-holds _ _ laid.study).short in length-take-le (study_length ns) bs (omega arith)

  machine-version-length : length (machine_at ns bs).version ≡ version_length ns
  unfolding machine_at
  machine-version-length =
      let short = (slot-holds _ _ laid.version).short in
      length-take-le (version_length ns) (drop long_name_most bs) (omega (arith, length-drop long_name_most bs))

  machine-numbers : numbers_of (machine_at ns bs) ≡ ns
  unfolding numbers_of
  machine-numbers =
      rw (
        machine-file-rows,
        machine-changes,
        machine-change-rows,
        machine-bytes,
        first_changes-length ns bs (change_count ns),
        machine-files-length,
        machine-study-length,
        machine-version-length,
      )
      (numbers_parts ns numbers-size)

  machine_buffer : bytes_of (machine_at ns bs) ≡ bs
  unfolding bytes_of
  machine_buffer =
      let study : padded long_name_most (machine_at ns bs).study ≡ take long_name_most bs = unfold machine_at in machine-study in
      let version : padded long_name_most (machine_at ns bs).version ≡ take long_name_most (drop long_name_most bs) = unfold machine_at in machine-version in
      rw (study, version, machine_slots, machine-changes, machine-change-bytes) (bytes_parts bs)

  pub machine-image : image (machine_at ns bs) ≡ record { numbers = ns; bytes = bs }
  unfolding image
  machine-image = rw (machine-numbers, machine_buffer)

  pub machine-obeys : in_turn [] (first_changes ns bs (change_count ns)) ≡ true → obeys (machine_at ns bs) ≡ true
  machine-obeys turns =
      obeys_by (machine_at ns bs) record {
        study = unfold machine_at in rw study-slot at (slot-holds _ _ laid.study).named;
        version = unfold machine_at in rw version-slot at (slot-holds _ _ laid.version).named;
        few-files = rw machine-files-length laid.few-files;
        filed = unfold machine_at in files-formed ns bs (first_changes ns bs (change_count ns)) (file_count ns) laid.files;
        distinct_oids = unfold machine_at in files-distinct ns bs (first_changes ns bs (change_count ns)) (file_count ns) laid.files;
        dates = unfold machine_at in files_dates ns bs (first_changes ns bs (change_count ns)) (file_count ns) laid.files;
        few-changes = rw (machine-changes, first_changes-length ns bs (change_count ns)) laid.few-changes;
        few_bytes = rw (machine-changes, machine-bytes) laid.few_bytes;
        turns = rw machine-changes turns;
      }
