-- Each part of the buffers with more in it, or less: what an added file or change writes, and what clearing it gives back.
use mathlib.Core.Path.{◌≡◌, refl, ◌∙◌}
use mathlib.Core.Bool.{true}
use mathlib.Core.List.{List, [], ◌∷◌, ◌++◌, append_assoc, append-nil}
use Prim.Native.Nat.{ℕ, ◌+◌, ◌*◌, ◌≤◌, ◌<◌}
use native.Mathlib.Omega.{arith}
use lib.ListN.{length, replicate, length-append}
use Rattle.names.specs.Bytes.{all}
use Rattle.names.specs.Date.{date_size}
use Rattle.names.specs.Name.{long_name_most}
use Rattle.names.specs.Overwrite.{overwrite}
use Rattle.store.specs.Change.{Change, changes_bytes}
use Rattle.store.specs.Machine.{Filed, changes_of, is_filed, files_most, changes_most, bytes_most}
use Rattle.store.specs.Image.{file_row, change_row, file_slot, padded, change_rows, file_rows, file_slots, slot_of}
use Rattle.store.proofs.Images.Arrangement.{file_rows_part, change_rows_part, slots_part, change_bytes_part}
use Rattle.store.proofs.Lists.FilledParts.{padded-length, padded-more, padded_cleared, padded-padded}
use Rattle.store.proofs.Images.Rules.{filed_oid, filed_date}
use Rattle.store.proofs.Images.RowLaws.{change_rows-length, file_rows-length, slot-length, file_slots-length, change_rows-append, file_rows-append, file_slots-append}
use Rattle.store.proofs.Tables.OneChange.{changes_of-append, changes_bytes-append}

-- A text filled up with zeros, its front as long as k.
more-at : (n k : ℕ) (s t : List ℕ) → length s ≡ k → k + length t ≤ n → padded n (s ++ t) ≡ overwrite (padded n s) k t
more-at n k s t e h = rw (← e) (padded-more n s t (rw length-append (omega arith)))

cleared_at : (n k l : ℕ) (s t : List ℕ) → length s ≡ k → length t ≡ l → k + l ≤ n → overwrite (padded n (s ++ t)) k (replicate l 0) ≡ padded n s
cleared_at n k l s t e g h = rw (← e, ← g) (padded_cleared n s t (rw length-append (omega arith)))

-- The changes of the files with one more.
pub changes_of-more : (fs : List Filed) (f : Filed) → changes_of (fs ++ f ∷ []) ≡ changes_of fs ++ f.changes
unfolding changes_of
changes_of-more fs f = changes_of-append fs (f ∷ []) ∙ rw append-nil

-- Change rows and change bytes, with the changes ds behind cs.
module _ (cs ds : List Change) where
  rows-joined : change_rows 0 (cs ++ ds) ≡ change_rows 0 cs ++ change_rows (length (changes_bytes cs)) ds
  rows-joined = let e : 0 + length (changes_bytes cs) ≡ length (changes_bytes cs) = omega arith in change_rows-append 0 cs ds ∙ rw e

  pub change_rows-more : length cs + length ds ≤ changes_most
      → change_rows_part (cs ++ ds) ≡ overwrite (change_rows_part cs) (change_row * length cs) (change_rows (length (changes_bytes cs)) ds)
  change_rows-more h =
      rw rows-joined
      (more-at (changes_most * change_row) (change_row * length cs) _ _ (change_rows-length 0 cs) (omega (arith, change_rows-length (length (changes_bytes cs)) ds)))

  pub change_rows_cleared : length cs + length ds ≤ changes_most
      → overwrite (change_rows_part (cs ++ ds)) (change_row * length cs) (replicate (change_row * length ds) 0) ≡ change_rows_part cs
  change_rows_cleared h =
      rw rows-joined
      (cleared_at (changes_most * change_row) (change_row * length cs) (change_row * length ds) _ _ (change_rows-length 0 cs) (change_rows-length (length (changes_bytes cs)) ds) (omega arith))

  pub change_bytes-more : length (changes_bytes cs) + length (changes_bytes ds) ≤ bytes_most
      → change_bytes_part (cs ++ ds) ≡ overwrite (change_bytes_part cs) (length (changes_bytes cs)) (changes_bytes ds)
  change_bytes-more h = rw (changes_bytes-append cs ds) (more-at bytes_most (length (changes_bytes cs)) (changes_bytes cs) (changes_bytes ds) refl h)

  pub change_bytes_cleared : length (changes_bytes cs) + length (changes_bytes ds) ≤ bytes_most
      → overwrite (change_bytes_part (cs ++ ds)) (length (changes_bytes cs)) (replicate (length (changes_bytes ds)) 0) ≡ change_bytes_part cs
  change_bytes_cleared h =
      rw (changes_bytes-append cs ds) (cleared_at bytes_most (length (changes_bytes cs)) (length (changes_bytes ds)) (changes_bytes cs) (changes_bytes ds) refl refl h)

-- The row of a file behind those of fs: through it are all changes of fs and its own.
abbrev pub row_of : List Filed → Filed → List ℕ
row_of fs f = length f.oid ∷ length (changes_of fs ++ f.changes) ∷ length (changes_bytes (changes_of fs ++ f.changes)) ∷ []

-- File rows and file slots, with the file f behind fs.
module _ (fs : List Filed) (f : Filed) where
  file-rows-joined : file_rows 0 0 (fs ++ f ∷ []) ≡ file_rows 0 0 fs ++ row_of fs f
  unfolding file_rows
  file-rows-joined =
      let e : 0 + length (changes_of fs) + length f.changes ≡ length (changes_of fs ++ f.changes) = rw length-append (omega arith) in
      let g : 0 + length (changes_bytes (changes_of fs)) + length (changes_bytes f.changes) ≡ length (changes_bytes (changes_of fs ++ f.changes)) =
      rw (changes_bytes-append (changes_of fs) f.changes, length-append) (omega arith) in
      file_rows-append 0 0 fs (f ∷ []) ∙ rw (e, g)

  pub file_rows-more : length fs < files_most → file_rows_part (fs ++ f ∷ []) ≡ overwrite (file_rows_part fs) (file_row * length fs) (row_of fs f)
  file_rows-more h = rw file-rows-joined (more-at (files_most * file_row) (file_row * length fs) (file_rows 0 0 fs) (row_of fs f) (file_rows-length 0 0 fs) (omega arith))

  pub file_rows_cleared : length fs < files_most → overwrite (file_rows_part (fs ++ f ∷ [])) (file_row * length fs) (replicate file_row 0) ≡ file_rows_part fs
  file_rows_cleared h =
      rw file-rows-joined (cleared_at (files_most * file_row) (file_row * length fs) file_row (file_rows 0 0 fs) (row_of fs f) (file_rows-length 0 0 fs) refl (omega arith))

  slots_joined : file_slots (fs ++ f ∷ []) ≡ file_slots fs ++ slot_of f
  unfolding file_slots
  slots_joined = file_slots-append fs (f ∷ []) ∙ rw append-nil

  module _ (formed : all is_filed fs ≡ true) (this : is_filed f ≡ true) (room : length fs < files_most) where
    pub file_slots_cleared : overwrite (slots_part (fs ++ f ∷ [])) (file_slot * length fs) (replicate file_slot 0) ≡ slots_part fs
    file_slots_cleared =
        rw slots_joined
        (cleared_at (files_most * file_slot) (file_slot * length fs) file_slot (file_slots fs) (slot_of f) (file_slots-length fs formed) (slot-length f this) (omega arith))

    -- The FileOID and the date may be written apart: between them are zeros already.
    pub file_slots-written : overwrite (overwrite (slots_part fs) (file_slot * length fs) f.oid) (file_slot * length fs + long_name_most) f.date ≡ slots_part (fs ++ f ∷ [])
    file_slots-written =
        let n = files_most * file_slot in
        let k = file_slot * length fs in
        let l = file_slots-length fs formed in
        let short = filed_oid f this in
        let date = filed_date f this in
        let head : length (file_slots fs ++ padded long_name_most f.oid) ≡ k + long_name_most =
        rw (length-append, l, padded-length long_name_most f.oid short) in
        rw (
          ← more-at n k (file_slots fs) f.oid l (omega arith),
          ← padded-padded n long_name_most (file_slots fs) f.oid short (omega arith),
          ← more-at n (k + long_name_most) (file_slots fs ++ padded long_name_most f.oid) f.date head (omega arith),
          ← padded-padded n date_size (file_slots fs ++ padded long_name_most f.oid) f.date date (omega arith),
          slots_joined,
          append_assoc (file_slots fs) (padded long_name_most f.oid) (padded date_size f.date),
        )
