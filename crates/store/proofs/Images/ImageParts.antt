-- How the image of a machine lies in the buffers while a file is added to it or struck from it.
use mathlib.Core.Path.{◌≡◌, refl, sym, ◌∙◌}
use mathlib.Core.Bool.{true}
use mathlib.Core.List.{List, [], ◌∷◌, ◌++◌}
use Prim.Native.Nat.{ℕ, ◌+◌, ◌*◌, ◌≤◌, ◌<◌}
use native.Mathlib.Omega.{arith}
use lib.ListN.{length, replicate, length-append}
use Rattle.names.specs.Bytes.{all}
use Rattle.names.specs.Name.{long_name_most}
use Rattle.names.specs.Overwrite.{overwrite}
use Rattle.names.proofs.OverwriteLaws.{overwrite-length}
use Rattle.store.specs.Change.{Change, changes_bytes}
use Rattle.store.specs.Machine.{Filed, Machine, changes_of, is_filed, obeys, files_most, changes_most, bytes_most}
use Rattle.store.specs.Image.{contents_size, file_row, change_row, file_slot, change_rows, numbers_of, bytes_of, contents_of, fixed_of}
use Rattle.store.proofs.Images.Arrangement.{file_rows_part, change_rows_part, names_part, slots_part, change_bytes_part, file_rows_part-length, names_part-length, slots_part-length}
use Rattle.store.proofs.Images.PartWrites.{changes_of-more, change_rows-more, change_rows_cleared, change_bytes-more, change_bytes_cleared, row_of, file_rows-more, file_rows_cleared, file_slots_cleared, file_slots-written}
use Rattle.store.proofs.Lists.FilledParts.{overwrite-second, overwrite_third}
use Rattle.store.proofs.Images.Rules.{rules_of, filed_oid, filed_date}
use Rattle.names.proofs.Tests.{all_append, all_one}
unfoldable pub use Rattle.store.specs.code.With.{numbers_with, bytes_with, filing}

-- Where the change rows, the file slots and the change bytes begin.
abbrev pub changes_at : ℕ
changes_at = contents_size + files_most * file_row

abbrev pub slots_at : ℕ
slots_at = long_name_most + long_name_most

abbrev pub change_bytes_at : ℕ
change_bytes_at = slots_at + files_most * file_slot

pub numbers_with_own : (m : Machine) → numbers_with m (changes_of m.files) ≡ numbers_of m
unfolding numbers_with numbers_of
numbers_with_own m = refl

pub bytes_with_own : (m : Machine) → bytes_with m (changes_of m.files) ≡ bytes_of m
unfolding bytes_with bytes_of
bytes_with_own m = refl

-- The changes that the machine has then.
abbrev pub with_changes : Machine → Filed → List Change
with_changes m f = changes_of m.files ++ f.changes

-- The counts that stand first and a row are written, over any numbers.
counts_and_row : (a b c x y z k : ℕ) (fixed rows behind row : List ℕ) → length (x ∷ y ∷ z ∷ fixed) ≡ contents_size → k + length row ≤ length rows
    → overwrite (overwrite ((a ∷ b ∷ c ∷ fixed) ++ rows ++ behind) 0 (x ∷ y ∷ z ∷ [])) (contents_size + k) row ≡ (x ∷ y ∷ z ∷ fixed) ++ overwrite rows k row ++ behind
counts_and_row a b c x y z k fixed rows behind row e h = rw counts (overwrite-second (x ∷ y ∷ z ∷ fixed) rows behind contents_size k row e h)
  where
    counts : overwrite ((a ∷ b ∷ c ∷ fixed) ++ rows ++ behind) 0 (x ∷ y ∷ z ∷ []) ≡ (x ∷ y ∷ z ∷ fixed) ++ rows ++ behind
    counts = unfold overwrite in refl

module _ (m : Machine) (o : obeys m ≡ true) where
  front-numbers : length (contents_of m ++ file_rows_part m.files) ≡ changes_at
  front-numbers = rw (length-append (contents_of m), file_rows_part-length m.files (rules_of m o).few-files)

  names-length : length (names_part m.study m.version) ≡ slots_at
  names-length = let r = rules_of m o in names_part-length m.study m.version r.study r.version

  front_bytes : length (names_part m.study m.version ++ slots_part m.files) ≡ change_bytes_at
  front_bytes =
      let r = rules_of m o in
      rw (length-append (names_part m.study m.version), names-length, slots_part-length m.files r.few-files r.filed)

  -- The changes ds are added behind cs, or cleared away.
  module _ (cs ds : List Change) where
    pub numbers_more : length cs + length ds ≤ changes_most
        → numbers_with m (cs ++ ds) ≡ overwrite (numbers_with m cs) (changes_at + change_row * length cs) (change_rows (length (changes_bytes cs)) ds)
    unfolding numbers_with
    numbers_more h =
        rw (change_rows-more cs ds h) (sym (overwrite_third (contents_of m) (file_rows_part m.files) (change_rows_part cs) changes_at (change_row * length cs) _ front-numbers))

    pub numbers_cleared : length cs + length ds ≤ changes_most
        → overwrite (numbers_with m (cs ++ ds)) (changes_at + change_row * length cs) (replicate (change_row * length ds) 0) ≡ numbers_with m cs
    unfolding numbers_with
    numbers_cleared h =
        overwrite_third (contents_of m) (file_rows_part m.files) (change_rows_part (cs ++ ds)) changes_at (change_row * length cs) _ front-numbers
        ∙ rw (change_rows_cleared cs ds h)

    pub bytes-more : length (changes_bytes cs) + length (changes_bytes ds) ≤ bytes_most
        → bytes_with m (cs ++ ds) ≡ overwrite (bytes_with m cs) (change_bytes_at + length (changes_bytes cs)) (changes_bytes ds)
    unfolding bytes_with
    bytes-more h =
        rw (change_bytes-more cs ds h)
        (sym (overwrite_third (names_part m.study m.version) (slots_part m.files) (change_bytes_part cs) change_bytes_at (length (changes_bytes cs)) _ front_bytes))

    pub bytes_cleared : length (changes_bytes cs) + length (changes_bytes ds) ≤ bytes_most
        → overwrite (bytes_with m (cs ++ ds)) (change_bytes_at + length (changes_bytes cs)) (replicate (length (changes_bytes ds)) 0) ≡ bytes_with m cs
    unfolding bytes_with
    bytes_cleared h =
        overwrite_third (names_part m.study m.version) (slots_part m.files) (change_bytes_part (cs ++ ds)) change_bytes_at (length (changes_bytes cs)) _ front_bytes
        ∙ rw (change_bytes_cleared cs ds h)

  -- The file f with its counts, row and slot stands behind the others, or is struck, whatever changes stand in the buffers.
  module _ (f : Filed) (room : length m.files < files_most) (cs : List Change) where
    rows-room : (fs : List Filed) → length fs ≤ files_most → file_row * length m.files + file_row ≤ length (file_rows_part fs)
    rows-room fs h = rw (file_rows_part-length fs h) (omega arith)

    full : length (m.files ++ f ∷ []) ≤ files_most
    full = rw length-append (omega arith)

    pub numbers_filed :
        overwrite (overwrite (numbers_with m cs) 0 ((length m.files + 1) ∷ length (with_changes m f) ∷ length (changes_bytes (with_changes m f)) ∷ []))
        (contents_size + file_row * length m.files) (row_of m.files f)
        ≡ numbers_with (filing m f) cs
    unfolding numbers_with
    numbers_filed =
        let fs = m.files in
        counts_and_row _ _ _ _ _ _ (file_row * length fs) (fixed_of m) (file_rows_part fs) (change_rows_part cs) (row_of fs f) refl (rows-room fs (omega arith))
        ∙ rw (file_rows-more fs f room, changes_of-more fs f, length-append fs (f ∷ []))

    pub numbers_struck :
        overwrite
        (overwrite (numbers_with (filing m f) cs) 0 (length m.files ∷ length (changes_of m.files) ∷ length (changes_bytes (changes_of m.files)) ∷ []))
        (contents_size + file_row * length m.files) (replicate file_row 0)
        ≡ numbers_with m cs
    unfolding numbers_with
    numbers_struck =
        let fs = m.files in
        counts_and_row _ _ _ _ _ _ (file_row * length fs) (fixed_of m) (file_rows_part (fs ++ f ∷ [])) (change_rows_part cs) (replicate file_row 0) refl (rows-room (fs ++ f ∷ []) full)
        ∙ rw (file_rows_cleared fs f room)

    module _ (this : is_filed f ≡ true) where
      slots_room : (fs : List Filed) → length fs ≤ files_most → all is_filed fs ≡ true → file_slot * length m.files + file_slot ≤ length (slots_part fs)
      slots_room fs h e = rw (slots_part-length fs h e) (omega arith)

      -- The FileOID and the date written apart.
      pub bytes_filed_apart :
          overwrite (overwrite (bytes_with m cs) (slots_at + file_slot * length m.files) f.oid) (slots_at + file_slot * length m.files + long_name_most) f.date
          ≡ bytes_with (filing m f) cs
      unfolding bytes_with
      bytes_filed_apart =
          let fs = m.files in
          let r = rules_of m o in
          let k = file_slot * length fs in
          let ns = names_part m.study m.version in
          let wide = slots_room fs r.few-files r.filed in
          let short = filed_oid f this in
          let date = filed_date f this in
          let first : k + length f.oid ≤ length (slots_part fs) = omega arith in
          let second : k + long_name_most + length f.date ≤ length (overwrite (slots_part fs) k f.oid) = rw (overwrite-length (slots_part fs) k f.oid first) (omega arith) in
          let e : slots_at + k + long_name_most ≡ slots_at + (k + long_name_most) = omega arith in
          rw (
            overwrite-second ns (slots_part fs) (change_bytes_part cs) slots_at k f.oid names-length first,
            e,
            overwrite-second ns (overwrite (slots_part fs) k f.oid) (change_bytes_part cs) slots_at (k + long_name_most) f.date names-length second,
            file_slots-written fs f r.filed this room,
          )

      pub bytes_struck : overwrite (bytes_with (filing m f) cs) (slots_at + file_slot * length m.files) (replicate file_slot 0) ≡ bytes_with m cs
      unfolding bytes_with
      bytes_struck =
          let fs = m.files in
          let r = rules_of m o in
          overwrite-second (names_part m.study m.version) (slots_part (fs ++ f ∷ [])) (change_bytes_part cs) slots_at (file_slot * length fs) (replicate file_slot 0) names-length
          (slots_room (fs ++ f ∷ []) full (all_append is_filed fs (f ∷ []) r.filed (all_one is_filed f this)))
          ∙ rw (file_slots_cleared fs f r.filed this room)

-- There is room for one more file with its changes.
pub record Room (m : Machine) (f : Filed) : Type 0 where
  pub formed : is_filed f ≡ true
  pub files : length m.files < files_most
  pub changes : length (changes_of m.files) + length f.changes ≤ changes_most
  pub bytes : length (changes_bytes (changes_of m.files)) + length (changes_bytes f.changes) ≤ bytes_most

pub filing-numbers : (m : Machine) (f : Filed) → numbers_with (filing m f) (with_changes m f) ≡ numbers_of (filing m f)
filing-numbers m f = rw (← changes_of-more m.files f) (numbers_with_own (filing m f))

pub filing-bytes : (m : Machine) (f : Filed) → bytes_with (filing m f) (with_changes m f) ≡ bytes_of (filing m f)
filing-bytes m f = rw (← changes_of-more m.files f) (bytes_with_own (filing m f))

-- The whole, from image to image.
module _ (m : Machine) (o : obeys m ≡ true) (f : Filed) (r : Room m f) where
  pub numbers_withdrawn :
      overwrite
      (overwrite
      (overwrite (numbers_of (filing m f)) 0 (length m.files ∷ length (changes_of m.files) ∷ length (changes_bytes (changes_of m.files)) ∷ []))
      (contents_size + file_row * length m.files) (replicate file_row 0))
      (changes_at + change_row * length (changes_of m.files)) (replicate (change_row * length f.changes) 0)
      ≡ numbers_of m
  numbers_withdrawn =
      rw (← filing-numbers m f, numbers_struck m o f r.files (with_changes m f), numbers_cleared m o (changes_of m.files) f.changes r.changes) (numbers_with_own m)

  pub bytes_withdrawn :
      overwrite (overwrite (bytes_of (filing m f)) (slots_at + file_slot * length m.files) (replicate file_slot 0))
      (change_bytes_at + length (changes_bytes (changes_of m.files))) (replicate (length (changes_bytes f.changes)) 0)
      ≡ bytes_of m
  bytes_withdrawn =
      rw (← filing-bytes m f, bytes_struck m o f r.files (with_changes m f) r.formed, bytes_cleared m o (changes_of m.files) f.changes r.bytes) (bytes_with_own m)
