-- File rows and slots that fit: the files are read from them in order, and their rows and slots are those that stand in the buffers.
use mathlib.Core.Path.{◌≡◌, refl, sym, ap, ◌∙◌}
use mathlib.Core.Bool.{true}
use mathlib.Core.List.{List, [], ◌∷◌, ◌++◌, append-nil}
use Prim.Native.Nat.{ℕ, zero, suc, ◌+◌, ◌-◌, ◌*◌, ◌≤◌}
use native.Mathlib.Omega.{arith}
use lib.ListN.{length, take, drop, length-append}
use lib.Seq.{take-take, take-add, drop-drop, append_snoc}
use Rattle.names.specs.Bytes.{all}
use Rattle.names.specs.Name.{long_name_most, is_long_name}
use Rattle.names.specs.Pick.{pick}
use Rattle.names.proofs.Tests.{and_l, and_i, all_append, all_one}
use Rattle.store.specs.Change.{Change, changes_bytes}
use Rattle.store.specs.Image.{contents_size, file_row, file_slot, numbers_size, bytes_size, file_rows, file_slots, files_in}
use Rattle.store.specs.code.Layout.{change_count, files_at, oid_length, through_at, bytes_through_at, through_before, oid_slot, oid_at, date_at, files_fit, rows_fit, through_files}
use Rattle.store.specs.Machine.{Filed, changes_of, is_filed, files_most}
use Rattle.store.specs.code.Rows.{first_changes}
use Rattle.store.proofs.Layouts.ChangesLaid.{first_changes-length, first_changes-take, laid_bytes-length}
use Rattle.store.proofs.Layouts.FileFits.{file-fits-at, through_next, oid-length, slot-bytes}
use Rattle.store.proofs.Images.PartWrites.{changes_of-more}
use Rattle.store.proofs.Lists.RowPlaces.{file-number, file-numbers}
use Rattle.store.proofs.Layouts.RowFits.{rows_fit-first}
use Rattle.store.proofs.Images.RowLaws.{file_rows-append, file_slots-append}
use Rattle.store.proofs.Tables.OneChange.{changes_bytes-append}

-- File i by its row and slot, its changes taken from cs; and the first n files.
unfoldable pub file_at : List ℕ → List ℕ → List Change → ℕ → Filed
file_at ns bs cs i = record { oid = oid_at ns bs i; date = date_at bs i; changes = take (through_at ns i - through_before ns i) (drop (through_before ns i) cs) }

unfoldable pub first_files : List ℕ → List ℕ → List Change → ℕ → List Filed
first_files ns bs cs zero = []
first_files ns bs cs (suc n) = first_files ns bs cs n ++ file_at ns bs cs n ∷ []

module _ (ns bs : List ℕ) (cs : List Change) where
  pub first_files_length : (n : ℕ) → length (first_files ns bs cs n) ≡ n
  unfolding first_files
  first_files_length zero = refl
  first_files_length (suc n) = omega (arith, length-append (first_files ns bs cs n) (file_at ns bs cs n ∷ []), first_files_length n)

  pub files-formed : (n : ℕ) → files_fit ns bs n ≡ true → all is_filed (first_files ns bs cs n) ≡ true
  unfolding first_files file_at all files_fit is_filed
  files-formed zero e = refl
  files-formed (suc n) e =
      let f = file-fits-at ns bs (suc n) n e (omega arith) in
      let g : is_filed (file_at ns bs cs n) ≡ true = and_i (is_long_name (oid_at ns bs n)) _ (unfold oid_at in f.slot.named) f.date in
      all_append is_filed (first_files ns bs cs n) _ (files-formed n (and_l _ _ e)) (all_one is_filed (file_at ns bs cs n) g)

  -- Their changes are the first ones.
  pub files-changes : (n : ℕ) → files_fit ns bs n ≡ true → changes_of (first_files ns bs cs n) ≡ take (through_before ns n) cs
  unfolding first_files file_at changes_of through_files files_fit pick
  files-changes zero e = refl
  files-changes (suc n) e =
      let f = file-fits-at ns bs (suc n) n e (omega arith) in
      let l = f.through_low in
      let w : through_before ns n + (through_at ns n - through_before ns n) ≡ through_at ns n = omega arith in
      rw (
        changes_of-more (first_files ns bs cs n) (file_at ns bs cs n),
        files-changes n (and_l _ _ e),
        through_next ns n,
        ← take-add (through_before ns n) (through_at ns n - through_before ns n) cs,
        w,
      )

  -- Their slots.
  pub files_slots : length bs ≡ bytes_size → (n : ℕ) → files_fit ns bs n ≡ true → n ≤ files_most → file_slots (first_files ns bs cs n) ≡ take (file_slot * n) (drop files_at bs)
  unfolding first_files file_at file_slots files_fit
  files_slots size zero e h = refl
  files_slots size (suc n) e h =
      let f = file-fits-at ns bs (suc n) n e (omega arith) in
      let w : file_slot * suc n ≡ file_slot * n + file_slot = omega arith in
      rw (
        file_slots-append (first_files ns bs cs n) (file_at ns bs cs n ∷ []),
        append-nil,
        files_slots size n (and_l _ _ e) (omega arith),
        slot-bytes ns bs size n (omega arith) f,
        w,
        take-add (file_slot * n) file_slot (drop files_at bs),
      )

  -- They are read from the rows and slots, in order.
  files_in_lem : (n i : ℕ) → files_fit ns bs (i + n) ≡ true
      → first_files ns bs cs i
      ++ files_in n (through_before ns i) (drop (file_row * i) (drop contents_size ns)) (drop (file_slot * i) (drop files_at bs)) (drop (through_before ns i) cs)
      ≡ first_files ns bs cs (i + n)
  unfolding files_in first_files file_at oid_at oid_slot date_at
  files_in_lem zero i e = let z : i + 0 ≡ i = omega arith in rw (append-nil, z)
  files_in_lem (suc n) i e =
      let z : i + suc n ≡ suc i + n = omega arith in
      let f = file-fits-at ns bs (i + suc n) i e (omega arith) in
      let l = f.through_low in
      let short = f.slot.short in
      let w : through_before ns i + (through_at ns i - through_before ns i) ≡ through_at ns i = omega arith in
      let r : file_row * i + file_row ≡ file_row * suc i = omega arith in
      let s : file_slot * i + file_slot ≡ file_slot * suc i = omega arith in
      let ih = rw through_next at (files_in_lem n (suc i) (rw (← z) e)) in
      rw (
        file-number ns i 0,
        file-number ns i 1,
        drop-drop file_row (file_row * i) (drop contents_size ns),
        r,
        drop-drop file_slot (file_slot * i) (drop files_at bs),
        s,
        drop-drop (through_at ns i - through_before ns i) (through_before ns i) cs,
        w,
        drop-drop (file_slot * i) files_at bs,
        drop-drop long_name_most (files_at + file_slot * i) bs,
        ← take-take (oid_length ns i) long_name_most (drop (files_at + file_slot * i) bs) short,
        z,
        ← append_snoc,
      )
      ih

  pub files-files_in : (n : ℕ) → files_fit ns bs n ≡ true → files_in n 0 (drop contents_size ns) (drop files_at bs) cs ≡ first_files ns bs cs n
  unfolding through_files first_files pick
  files-files_in n e = let z : 0 + n ≡ n = omega arith in rw z at (files_in_lem n 0 (rw z e))

-- Their rows, where the changes are those of the change rows.
module _ (ns bs : List ℕ) (numbers-size : length ns ≡ numbers_size) (bytes-size : length bs ≡ bytes_size) (fit : rows_fit ns bs (change_count ns) ≡ true) where
  -- The changes through file n.
  changes_through : (n : ℕ) → files_fit ns bs (suc n) ≡ true
      → changes_of (first_files ns bs (first_changes ns bs (change_count ns)) n) ++ (file_at ns bs (first_changes ns bs (change_count ns)) n).changes
      ≡ first_changes ns bs (through_at ns n)
  unfolding first_files
  changes_through n e =
      let cs : List Change = first_changes ns bs (change_count ns) in
      let h = (file-fits-at ns bs (suc n) n e (omega arith)).through_high in
      let t : take (through_before ns (suc n)) cs ≡ first_changes ns bs (through_at ns n) =
      rw (through_next ns n) (first_changes-take ns bs (through_at ns n) (change_count ns) h) in
      sym (changes_of-more (first_files ns bs cs n) (file_at ns bs cs n)) ∙ files-changes ns bs cs (suc n) e ∙ t

  pub files-rows : (n : ℕ) → files_fit ns bs n ≡ true → n ≤ files_most
      → file_rows 0 0 (first_files ns bs (first_changes ns bs (change_count ns)) n) ≡ take (file_row * n) (drop contents_size ns)
  unfolding first_files file_rows files_fit
  files-rows zero e h = refl
  files-rows (suc n) e h =
      let cs : List Change = first_changes ns bs (change_count ns) in
      let fs : List Filed = first_files ns bs cs n in
      let f : Filed = file_at ns bs cs n in
      let fits = file-fits-at ns bs (suc n) n e (omega arith) in
      let k : ℕ = through_at ns n in
      let t : 0 + length (changes_of fs) + length f.changes ≡ k =
      omega (arith, length-append (changes_of fs) f.changes, ap length (changes_through n e), first_changes-length ns bs k) in
      let b : 0 + length (changes_bytes (changes_of fs)) + length (changes_bytes f.changes) ≡ bytes_through_at ns n =
      omega (
        arith,
        length-append (changes_bytes (changes_of fs)) (changes_bytes f.changes),
        ap length (changes_bytes-append (changes_of fs) f.changes),
        ap (λ (l : List Change). length (changes_bytes l)) (changes_through n e),
        laid_bytes-length ns bs bytes-size k (rows_fit-first ns bs k (change_count ns) fits.through_high fit),
        fits.bytes_through_lem,
      ) in
      let o : length f.oid ≡ oid_length ns n = unfold file_at in oid-length ns bs bytes-size n (omega arith) fits in
      let w : file_row * suc n ≡ file_row * n + file_row = omega arith in
      rw (
        file_rows-append 0 0 fs (f ∷ []),
        t,
        b,
        o,
        files-rows n (and_l _ _ e) (omega arith),
        w,
        take-add (file_row * n) file_row (drop contents_size ns),
        file-numbers ns n (omega arith),
      )
