-- The files of a list by places, where their rows and their slots stand in two buffers: each fits and is its file.
use mathlib.Core.Path.{◌≡◌, refl, sym, ap, ◌∙◌}
use mathlib.Core.Bool.{true, ◌||◌}
use mathlib.Core.List.{List, [], ◌∷◌, ◌++◌, append_assoc, append-nil}
use Prim.Native.Nat.{ℕ, suc, ◌+◌, ◌-◌, ◌*◌}
use native.Mathlib.Omega.{arith}
use lib.Dec.{eqb}
use lib.ListN.{length, take, drop, get_or, length-append}
use lib.Seq.{take_at, drop_at, drop-drop, append_snoc, take-append_seam, drop-append_seam}
use borrow.Author.Tests.{ne_eqb}
use Rattle.names.specs.Bytes.{all}
use Rattle.names.specs.Date.{date_size, not_later}
use Rattle.names.specs.Name.{long_name_most, is_long_name}
use Rattle.names.specs.Pick.{pick}
use Rattle.names.proofs.Tests.{and_l, and_r, all_head, all_left, all_right}
use Rattle.store.specs.Change.{Change, changes_bytes}
use Rattle.store.specs.Image.{contents_size, file_row, file_slot, padded, file_rows, file_slots}
use Rattle.store.specs.code.Layout.{change_count, files_at, oid_length, through_at, bytes_through_at, through_before, oid_slot, oid_at, date_at, new_oid, file_fits, files_fit, through_files}
use Rattle.store.specs.Machine.{Filed, changes_of, is_filed, distinct, never_fall}
use Rattle.store.specs.code.Rows.{start_at}
use Rattle.store.proofs.Lists.Appending.{by_last, length_more, size-before, first-placed}
use Rattle.store.proofs.Layouts.FileFits.{SlotHolds, file_fits_by, through_next}
use Rattle.store.proofs.Layouts.FileRules.{distinct_more, never_fall-more, new_oid-standing}
use Rattle.store.proofs.Layouts.FilesLaid.{file_at, first_files}
use Rattle.store.proofs.Images.PartWrites.{changes_of-more}
use Rattle.store.proofs.Lists.FilledParts.{padded-length, padded-text}
use Rattle.store.proofs.Lists.RowPlaces.{file-number}
use Rattle.store.proofs.Images.RowLaws.{file_rows-append, file_rows-length, file_slots-append, file_slots-length, kept_read}
use Rattle.store.proofs.Images.Rules.{long-name-length, filed_oid, filed_dated}
use Rattle.store.proofs.Calls.WithdrawRules.{distinct-left, never_fall-left}
use Rattle.store.proofs.Lists.Zeros.{padded-behind}
use Rattle.store.proofs.Tables.OneChange.{changes_of-append, changes_bytes-append}

-- A long name filled up is a slot that holds it.
pub padded-holds : (s : List ℕ) → is_long_name s ≡ true → SlotHolds (length s) (padded long_name_most s)
padded-holds s e =
    let text : take (length s) (padded long_name_most s) ≡ s = rw append-nil at (padded-text long_name_most s []) in
    record { short = long-name-length s e; named = rw text e; behind = padded-behind long_name_most s }

module _ (ns bs : List ℕ) (fs : List Filed) (rows_behind slots-behind : List ℕ)
    (rows : drop contents_size ns ≡ file_rows 0 0 fs ++ rows_behind) (slots : drop files_at bs ≡ file_slots fs ++ slots-behind) (formed : all is_filed fs ≡ true) where
  module _ (xs ys : List Filed) (f : Filed) (e : fs ≡ xs ++ f ∷ ys) where
    this_formed : is_filed f ≡ true
    this_formed = all_head is_filed f ys (all_right is_filed xs (f ∷ ys) (rw e at formed))

    row-placed : drop (file_row * length xs) (drop contents_size ns)
        ≡ length f.oid ∷ (length (changes_of xs) + length f.changes) ∷ (length (changes_bytes (changes_of xs)) + length (changes_bytes f.changes))
        ∷ (file_rows (length (changes_of xs) + length f.changes) (length (changes_bytes (changes_of xs)) + length (changes_bytes f.changes)) ys ++ rows_behind)
    unfolding file_rows
    row-placed =
        let z : 0 + length (changes_of xs) ≡ length (changes_of xs) = omega arith in
        let w : 0 + length (changes_bytes (changes_of xs)) ≡ length (changes_bytes (changes_of xs)) = omega arith in
        rw (rows, e, file_rows-append 0 0 xs (f ∷ ys), z, w, append_assoc) (drop_at (file_rows 0 0 xs) _ (file_row * length xs) (file_rows-length 0 0 xs))

    placed-oid-length : oid_length ns (length xs) ≡ length f.oid
    placed-oid-length = sym (file-number ns (length xs) 0) ∙ ap (λ (l : List ℕ). get_or l 0 0) row-placed

    placed_through : through_at ns (length xs) ≡ length (changes_of xs) + length f.changes
    placed_through = sym (file-number ns (length xs) 1) ∙ ap (λ (l : List ℕ). get_or l 1 0) row-placed

    placed-bytes_through : bytes_through_at ns (length xs) ≡ length (changes_bytes (changes_of xs)) + length (changes_bytes f.changes)
    placed-bytes_through = sym (file-number ns (length xs) 2) ∙ ap (λ (l : List ℕ). get_or l 2 0) row-placed

    slot_placed : drop (files_at + file_slot * length xs) bs ≡ padded long_name_most f.oid ++ (padded date_size f.date ++ (file_slots ys ++ slots-behind))
    unfolding file_slots
    slot_placed =
        let before : all is_filed xs ≡ true = all_left is_filed xs (f ∷ ys) (rw e at formed) in
        rw (← drop-drop (file_slot * length xs) files_at bs, slots, e, file_slots-append xs (f ∷ ys), append_assoc, append_assoc, append_assoc)
        (drop_at (file_slots xs) _ (file_slot * length xs) (file_slots-length xs before))

    placed-slot : oid_slot bs (length xs) ≡ padded long_name_most f.oid
    unfolding oid_slot
    placed-slot =
        rw slot_placed
        (take_at (padded long_name_most f.oid) (padded date_size f.date ++ (file_slots ys ++ slots-behind)) long_name_most (padded-length long_name_most f.oid (filed_oid f this_formed)))

    pub placed-oid : oid_at ns bs (length xs) ≡ f.oid
    unfolding oid_at
    placed-oid = rw (placed-slot, placed-oid-length) (rw append-nil at (padded-text long_name_most f.oid []))

    pub placed-date : date_at bs (length xs) ≡ f.date
    unfolding date_at
    placed-date =
        rw (
          ← drop-drop long_name_most (files_at + file_slot * length xs) bs,
          slot_placed,
          drop_at (padded long_name_most f.oid) (padded date_size f.date ++ (file_slots ys ++ slots-behind)) long_name_most (padded-length long_name_most f.oid (filed_oid f this_formed)),
        )
        (kept_read f.date (file_slots ys ++ slots-behind) (filed_dated f this_formed))

  pub placed-before : (xs ys : List Filed) → fs ≡ xs ++ ys → through_before ns (length xs) ≡ length (changes_of xs)
  placed-before =
      size-before (through_before ns) (λ xs. length (changes_of xs)) fs (unfold through_files pick changes_of in refl)
      (λ xs ys f e. rw (through_next ns (length xs), changes_of-more xs f, length-append) (placed_through xs ys f e))

  module _ (xs ys : List Filed) (f : Filed) (e : fs ≡ xs ++ f ∷ ys) where
    pub placed-file : file_at ns bs (changes_of fs) (length xs) ≡ f
    unfolding file_at changes_of
    placed-file =
        let n : length (changes_of xs) + length f.changes - length (changes_of xs) ≡ length f.changes = omega arith in
        rw (
          placed-oid xs ys f e,
          placed-date xs ys f e,
          placed_through xs ys f e,
          placed-before xs (f ∷ ys) e,
          n,
          e,
          changes_of-append xs (f ∷ ys),
          drop-append_seam (changes_of xs),
          take-append_seam f.changes,
        )

  -- The dates, and the FileOIDs of the files before.
  placed-order : never_fall fs ≡ true → (xs ys : List Filed) (f : Filed) → fs ≡ xs ++ f ∷ ys
      → (eqb (length xs) 0 || not_later (date_at bs (length xs - 1)) (date_at bs (length xs))) ≡ true
  placed-order dates xs = by_last Ordered first next xs
    where
      Ordered : List Filed → Type 0
      Ordered xs = (ys : List Filed) (f : Filed) → fs ≡ xs ++ f ∷ ys
          → (eqb (length xs) 0 || not_later (date_at bs (length xs - 1)) (date_at bs (length xs))) ≡ true

      first : Ordered []
      first ys f e = refl

      next : (xs : List Filed) (g : Filed) → Ordered xs → Ordered (xs ++ g ∷ [])
      next xs g _ ys f e =
          let d : suc (length xs) - 1 ≡ length xs = omega arith in
          let two : never_fall (xs ++ g ∷ [] ++ f ∷ []) ≡ true = never_fall-left (xs ++ g ∷ [] ++ f ∷ []) ys (rw append_snoc (rw e at dates)) in
          rw (placed-date (xs ++ g ∷ []) ys f e, length_more xs g, ne_eqb (suc (length xs)) 0 (λ q. omega arith), d, placed-date xs (f ∷ ys) g (e ∙ append_snoc xs g (f ∷ ys)))
          (and_r (never_fall (xs ++ g ∷ [])) _ (rw never_fall-more at two))

  placed_new : distinct fs ≡ true → (xs ys : List Filed) (f : Filed) → fs ≡ xs ++ f ∷ ys → first_files ns bs (changes_of fs) (length xs) ≡ xs
      → new_oid ns bs (length xs) (length xs) ≡ true
  placed_new oids xs ys f e before =
      let one : distinct (xs ++ f ∷ []) ≡ true = distinct-left (xs ++ f ∷ []) ys (rw append_snoc (rw e at oids)) in
      rw (new_oid-standing ns bs (changes_of fs) (length xs) (length xs), before, placed-oid xs ys f e) (and_r (distinct xs) _ (rw distinct_more at one))

  -- Each file fits, where the changes are as many as the contents say and start where their rows say.
  module _ (oids : distinct fs ≡ true) (dates : never_fall fs ≡ true) (count : change_count ns ≡ length (changes_of fs))
      (started : (cs ds : List Change) → changes_of fs ≡ cs ++ ds → start_at ns (length cs) ≡ length (changes_bytes cs)) where
    placed-fits : (xs ys : List Filed) (f : Filed) → fs ≡ xs ++ f ∷ ys → first_files ns bs (changes_of fs) (length xs) ≡ xs → file_fits ns bs (length xs) ≡ true
    unfolding changes_of is_filed
    placed-fits xs ys f e before =
        let this = this_formed xs ys f e in
        let split : changes_of fs ≡ changes_of xs ++ f.changes ++ changes_of ys = rw (e, changes_of-append xs (f ∷ ys)) (sym (append_assoc (changes_of xs) f.changes (changes_of ys))) in
        let size : length (changes_of fs) ≡ length (changes_of xs) + length f.changes + length (changes_of ys) = rw (split, length-append, length-append) in
        let start = started (changes_of xs ++ f.changes) (changes_of ys) split in
        file_fits_by ns bs (length xs) record {
          slot = rw (placed-oid-length xs ys f e, placed-slot xs ys f e) (padded-holds f.oid (and_l _ _ this));
          date = rw (placed-date xs ys f e) (and_r (is_long_name f.oid) _ this);
          order = placed-order dates xs ys f e;
          through_low = rw (placed-before xs (f ∷ ys) e, placed_through xs ys f e) (omega arith);
          through_high = rw (placed_through xs ys f e, count) (omega arith);
          bytes_through_lem =
              rw (placed-bytes_through xs ys f e, placed_through xs ys f e)
              (sym (rw (length-append, changes_bytes-append, length-append) at start));
          new = placed_new oids xs ys f e before;
        }

    -- The first files by places are the first of the list, and they fit.
    pub files-placed : (xs ys : List Filed) → fs ≡ xs ++ ys → (files_fit ns bs (length xs) ≡ true) × (first_files ns bs (changes_of fs) (length xs) ≡ xs)
    unfolding files_fit first_files
    files-placed =
        first-placed (files_fit ns bs) (file_fits ns bs) (first_files ns bs (changes_of fs)) (file_at ns bs (changes_of fs)) fs refl (λ n. refl) refl (λ n. refl)
        (λ xs ys f e before. (placed-fits xs ys f e before, placed-file xs ys f e))
