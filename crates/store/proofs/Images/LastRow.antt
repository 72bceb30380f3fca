-- The places of the last standing file in the image of a machine.
use mathlib.Core.Path.{◌≡◌, refl, sym, ◌∙◌}
use mathlib.Core.Bool.{true, false}
use mathlib.Core.List.{List, [], ◌∷◌, ◌++◌, append_assoc, append-nil}
use mathlib.Core.Logic.{⊎_elim}
use Prim.Native.Nat.{ℕ, ◌+◌, ◌-◌, ◌*◌, ◌≤◌, ◌<◌}
use native.Mathlib.Omega.{arith}
use borrow.Author.Tests.{ne_eqb}
use lib.Dec.{eqb}
use lib.ListN.{length, drop, get_or, replicate, length-append}
use lib.Seq.{take_at, drop_at, take-append_seam, drop-append-add, drop-append-le, get_or-drop}
use Rattle.names.specs.Date.{date_size}
use Rattle.names.specs.Name.{long_name_most}
use Rattle.names.specs.Pick.{pick}
use Rattle.store.specs.Change.{Change, changes_bytes}
use Rattle.store.specs.Image.{contents_size, file_row, file_slot, padded, file_rows, file_slots, numbers_of, bytes_of, contents_of, slot_of}
use Rattle.store.specs.code.Layout.{files_at, oid_length, oid_slot, oid_at, change_count, byte_count, file_count, through_files, file_number, through_before, bytes_before}
use Rattle.store.specs.Machine.{Filed, Machine, changes_of, is_filed, obeys, files_most}
use Rattle.store.specs.code.With.{file_rows_part, change_rows_part, names_part, slots_part, change_bytes_part, filing}
use Rattle.store.proofs.Images.Arrangement.{file_rows_part-length, names_part-length, slots_part-length}
use Rattle.store.proofs.Images.PartWrites.{changes_of-more}
use Rattle.store.proofs.Lists.FilledParts.{padded-length}
use Rattle.store.proofs.Images.RowLaws.{file_rows-length, file_rows-append, file_slots-length, file_slots-append}
use Rattle.store.proofs.Images.Rules.{rules_of, filed_oid}
use Rattle.store.proofs.Images.WithLaws.{changes_bytes-joined}
use Rattle.store.proofs.Lists.LastOf.{last_split}
use Rattle.store.proofs.Calls.WithdrawRules.{room_of}
use Rattle.names.proofs.Tests.{all_head, all_left, all_right}

-- What stands from a place of the second of three parts on.
drop-second : (a b c : List ℕ) (k n : ℕ) → length a ≡ k → n ≤ length b → drop (k + n) (a ++ b ++ c) ≡ drop n b ++ c
drop-second a b c k n h l = rw (← h, append_assoc a b c, drop-append-add a (b ++ c) n) (drop-append-le n b c l)

-- From the end of the front of a text that is filled up.
drop-padded : (n k : ℕ) (s t : List ℕ) → length s ≡ k → drop k (padded n (s ++ t)) ≡ t ++ replicate (n - length (s ++ t)) 0
unfolding padded
drop-padded n k s t h = rw (append_assoc s t) (drop_at s (t ++ replicate (n - length (s ++ t)) 0) k h)

through_joined : (gs : List Filed) (g : Filed) → length (changes_of gs) + length g.changes ≡ length (changes_of (gs ++ g ∷ []))
through_joined gs g = rw (changes_of-more gs g) (sym (length-append (changes_of gs) g.changes))

bytes-joined : (gs : List Filed) (g : Filed) → length (changes_bytes (changes_of gs)) + length (changes_bytes g.changes) ≡ length (changes_bytes (changes_of (gs ++ g ∷ [])))
bytes-joined gs g = rw (changes_of-more gs g) (sym (changes_bytes-joined (changes_of gs) g.changes))

-- What stands behind a file's row, up to the end of the numbers.
behind-row : List Change → List Filed → Filed → List Filed → List ℕ
behind-row cs gs g rest =
    file_rows (length (changes_of (gs ++ g ∷ []))) (length (changes_bytes (changes_of (gs ++ g ∷ [])))) rest
    ++ replicate (files_most * file_row - length (file_rows 0 0 (gs ++ g ∷ rest))) 0
    ++ change_rows_part cs

-- The three numbers of a file's row, with others behind it.
module _ (m : Machine) (few : length m.files ≤ files_most) (gs : List Filed) (g : Filed) (rest : List Filed) (split : m.files ≡ gs ++ g ∷ rest) where
  row_from : drop (contents_size + file_row * length gs) (numbers_of m)
      ≡ length g.oid ∷ length (changes_of (gs ++ g ∷ [])) ∷ length (changes_bytes (changes_of (gs ++ g ∷ []))) ∷ behind-row (changes_of m.files) gs g rest
  unfolding numbers_of file_rows behind-row
  row_from =
      let part : length (file_rows_part m.files) ≡ files_most * file_row = file_rows_part-length m.files few in
      let count : length m.files ≡ length gs + length (g ∷ rest) = rw split (length-append gs (g ∷ rest)) in
      let e : file_rows 0 0 (gs ++ g ∷ rest) ≡ file_rows 0 0 gs ++ file_rows (length (changes_of gs)) (length (changes_bytes (changes_of gs))) (g ∷ rest) =
      let a : 0 + length (changes_of gs) ≡ length (changes_of gs) = omega arith in
      let b : 0 + length (changes_bytes (changes_of gs)) ≡ length (changes_bytes (changes_of gs)) = omega arith in
      file_rows-append 0 0 gs (g ∷ rest) ∙ rw (a, b) in
      drop-second (contents_of m) (file_rows_part m.files) (change_rows_part (changes_of m.files)) contents_size (file_row * length gs) refl (omega arith)
      ∙ rw (split, e, drop-padded (files_most * file_row) (file_row * length gs) (file_rows 0 0 gs) _ (file_rows-length 0 0 gs), through_joined gs g, bytes-joined gs g)

-- The file f stands behind the files of m.
module _ (m : Machine) (f : Filed) (o : obeys (filing m f) ≡ true) where
  few-files : length (m.files ++ f ∷ []) ≤ files_most
  few-files = (rules_of (filing m f) o).few-files

  few-before : length m.files < files_most
  few-before = (room_of m f o).files

  -- Through the files before it.
  module _ (gs : List Filed) (g : Filed) (e : m.files ≡ gs ++ g ∷ []) where
    before-row : drop (contents_size + file_row * length gs) (numbers_of (filing m f))
        ≡ length g.oid ∷ length (changes_of m.files) ∷ length (changes_bytes (changes_of m.files))
        ∷ behind-row (changes_of (m.files ++ f ∷ [])) gs g (f ∷ [])
    before-row = row_from (filing m f) few-files gs g (f ∷ []) (rw e (append_assoc gs (g ∷ []) (f ∷ []))) ∙ rw e

    place-before : length m.files - 1 ≡ length gs
    place-before = rw (e, length-append gs (g ∷ [])) (omega arith)

    not_first : eqb (length m.files) 0 ≡ false
    not_first = ne_eqb (length m.files) 0 (λ z. let l : length m.files ≡ length gs + length (g ∷ []) = rw e (length-append gs (g ∷ [])) in omega arith)

    through_some : (k : ℕ) → through_files (numbers_of (filing m f)) k (length m.files) ≡ get_or (drop (contents_size + file_row * length gs) (numbers_of (filing m f))) k 0
    unfolding through_files file_number pick
    through_some k = rw (not_first, place-before, get_or-drop (contents_size + file_row * length gs) (numbers_of (filing m f)) k 0)

  pub changes_through : through_before (numbers_of (filing m f)) (length m.files) ≡ length (changes_of m.files)
  unfolding through_files pick changes_of
  changes_through = ⊎_elim (λ e. rw e) (λ w. through_some w.0 w.1 w.2 1 ∙ rw (before-row w.0 w.1 w.2)) (last_split m.files)

  pub bytes_through_lem : bytes_before (numbers_of (filing m f)) (length m.files) ≡ length (changes_bytes (changes_of m.files))
  unfolding through_files pick changes_of changes_bytes
  bytes_through_lem = ⊎_elim (λ e. rw e) (λ w. through_some w.0 w.1 w.2 2 ∙ rw (before-row w.0 w.1 w.2)) (last_split m.files)

  -- The contents.
  pub files-count : file_count (numbers_of (filing m f)) ≡ length m.files + 1
  unfolding numbers_of
  files-count = length-append m.files (f ∷ [])

  pub changes-count : change_count (numbers_of (filing m f)) ≡ length (changes_of m.files) + length f.changes
  unfolding numbers_of
  changes-count = sym (through_joined m.files f)

  pub bytes_count : byte_count (numbers_of (filing m f)) ≡ length (changes_bytes (changes_of m.files)) + length (changes_bytes f.changes)
  unfolding numbers_of
  bytes_count = sym (bytes-joined m.files f)

  -- Its FileOID.
  pub last_oid-length : oid_length (numbers_of (filing m f)) (length m.files) ≡ length f.oid
  unfolding file_number
  last_oid-length =
      sym (get_or-drop (contents_size + file_row * length m.files) (numbers_of (filing m f)) 0 0) ∙ rw (row_from (filing m f) few-files m.files f [] refl)

  last_slot : drop (files_at + file_slot * length m.files) (bytes_of (filing m f))
      ≡ padded long_name_most f.oid
      ++ (padded date_size f.date ++ (replicate (files_most * file_slot - length (file_slots m.files ++ slot_of f)) 0 ++ change_bytes_part (changes_of (m.files ++ f ∷ []))))
  unfolding bytes_of file_slots
  last_slot =
      let r = rules_of (filing m f) o in
      let fs = m.files in
      let slot : List ℕ = slot_of f in
      let formed = all_left is_filed fs (f ∷ []) r.filed in
      let part : length (slots_part (fs ++ f ∷ [])) ≡ files_most * file_slot = slots_part-length (fs ++ f ∷ []) few-files r.filed in
      let few = few-before in
      let joined : file_slots (fs ++ f ∷ []) ≡ file_slots fs ++ slot = file_slots-append fs (f ∷ []) ∙ rw (append-nil slot) in
      drop-second (names_part m.study m.version) (slots_part (fs ++ f ∷ [])) (change_bytes_part (changes_of (fs ++ f ∷ []))) files_at (file_slot * length fs)
      (names_part-length m.study m.version r.study r.version) (omega arith)
      ∙ rw (joined, drop-padded (files_most * file_slot) (file_slot * length fs) (file_slots fs) slot (file_slots-length fs formed))
      (simp append_assoc)

  pub last_oid : oid_at (numbers_of (filing m f)) (bytes_of (filing m f)) (length m.files) ≡ f.oid
  unfolding oid_at oid_slot padded
  last_oid =
      let short = filed_oid f (all_head is_filed f [] (all_right is_filed m.files (f ∷ []) (rules_of (filing m f) o).filed)) in
      rw (last_oid-length, last_slot, take_at (padded long_name_most f.oid) _ long_name_most (padded-length long_name_most f.oid short), take-append_seam f.oid)
