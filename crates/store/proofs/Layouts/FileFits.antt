-- A file row and slot that fit: what the test says, and the slot as the file's own bytes.
use mathlib.Core.Path.{◌≡◌, refl, sym}
use mathlib.Core.Bool.{true, ◌||◌}
use mathlib.Core.List.{List, ◌++◌}
use Prim.Native.Nat.{ℕ, suc, ◌+◌, ◌-◌, ◌*◌, ◌≤◌, ◌<◌}
use native.Mathlib.Omega.{arith}
use lib.Dec.{eqb, leb}
use lib.ListN.{length, take, drop, length-drop}
use lib.Seq.{length-take-le, take-add, drop-drop}
use borrow.Author.Tests.{leb-true, le-leb, eqb-true, eq-eqb}
use Rattle.names.specs.Date.{date_size, is_date, not_later}
use Rattle.names.specs.Name.{long_name_most, is_long_name}
use Rattle.names.specs.Pick.{◌and◌}
use Rattle.names.proofs.Tests.{and_l, and_r}
use Rattle.store.specs.Image.{file_slot, bytes_size, padded}
use Rattle.store.specs.code.Layout.{change_count, zeros, slot_holds, files_at, oid_length, through_at, bytes_through_at, through_before, oid_slot, oid_at, date_at, new_oid, file_fits, files_fit, through_files}
use Rattle.store.specs.Machine.{files_most}
use Rattle.store.specs.code.Rows.{start_at}
use Rattle.store.proofs.Lists.FirstPlaces.{each_at, before-next}
use Rattle.store.proofs.Images.RowLaws.{kept-padded}
use Rattle.store.proofs.Lists.Zeros.{padded-take}

-- A slot that holds a long name.
pub record SlotHolds (n : ℕ) (slot : List ℕ) : Type 0 where
  pub short : n ≤ long_name_most
  pub named : is_long_name (take n slot) ≡ true
  pub behind : zeros (drop n slot) ≡ true

pub slot-holds : (n : ℕ) (slot : List ℕ) → slot_holds n slot ≡ true → SlotHolds n slot
unfolding slot_holds
slot-holds n slot e =
    let e1 = and_r (leb n long_name_most) _ e in
    record { short = leb-true _ _ (and_l _ _ e); named = and_l _ _ e1; behind = and_r (is_long_name (take n slot)) _ e1 }

pub slot_holds_by : (n : ℕ) (slot : List ℕ) → SlotHolds n slot → slot_holds n slot ≡ true
unfolding slot_holds ◌and◌
slot_holds_by n slot h = rw (le-leb _ _ h.short, h.named) h.behind

pub slot-padded : (n : ℕ) (slot : List ℕ) → SlotHolds n slot → length slot ≡ long_name_most → padded long_name_most (take n slot) ≡ slot
slot-padded n slot h l = padded-take long_name_most n slot l h.short h.behind

-- What the test of a file says.
pub record FileFits (ns bs : List ℕ) (i : ℕ) : Type 0 where
  pub slot : SlotHolds (oid_length ns i) (oid_slot bs i)
  pub date : is_date (date_at bs i) ≡ true
  pub order : (eqb i 0 || not_later (date_at bs (i - 1)) (date_at bs i)) ≡ true
  pub through_low : through_before ns i ≤ through_at ns i
  pub through_high : through_at ns i ≤ change_count ns
  pub bytes_through_lem : bytes_through_at ns i ≡ start_at ns (through_at ns i)
  pub new : new_oid ns bs i i ≡ true

pub file-fits : (ns bs : List ℕ) (i : ℕ) → file_fits ns bs i ≡ true → FileFits ns bs i
unfolding file_fits
file-fits ns bs i e =
    let e1 = and_r (slot_holds (oid_length ns i) (oid_slot bs i)) _ e in
    let e2 = and_r (is_date (date_at bs i)) _ e1 in
    let e3 = and_r (eqb i 0 || not_later (date_at bs (i - 1)) (date_at bs i)) _ e2 in
    let e4 = and_r (leb (through_before ns i) (through_at ns i)) _ e3 in
    let e5 = and_r (leb (through_at ns i) (change_count ns)) _ e4 in
    record {
      slot = slot-holds (oid_length ns i) (oid_slot bs i) (and_l _ _ e);
      date = and_l _ _ e1;
      order = and_l _ _ e2;
      through_low = leb-true _ _ (and_l _ _ e3);
      through_high = leb-true _ _ (and_l _ _ e4);
      bytes_through_lem = eqb-true _ _ (and_l _ _ e5);
      new = and_r (eqb (bytes_through_at ns i) (start_at ns (through_at ns i))) _ e5;
    }

pub file_fits_by : (ns bs : List ℕ) (i : ℕ) → FileFits ns bs i → file_fits ns bs i ≡ true
unfolding file_fits ◌and◌
file_fits_by ns bs i f =
    rw (
      slot_holds_by (oid_length ns i) (oid_slot bs i) f.slot,
      f.date,
      f.order,
      le-leb _ _ f.through_low,
      le-leb _ _ f.through_high,
      eq-eqb _ _ f.bytes_through_lem,
    )
    f.new

-- Each of the first n files fits.
pub file-fits-at : (ns bs : List ℕ) (n i : ℕ) → files_fit ns bs n ≡ true → i < n → FileFits ns bs i
unfolding files_fit
file-fits-at ns bs n i e h = file-fits ns bs i (each_at (files_fit ns bs) (file_fits ns bs) (λ n. refl) n i e h)

-- Changes through the files before the next.
pub through_next : (ns : List ℕ) (i : ℕ) → through_before ns (suc i) ≡ through_at ns i
unfolding through_files
through_next ns i = before-next (λ i. through_at ns i) i

module _ (ns bs : List ℕ) (size : length bs ≡ bytes_size) (i : ℕ) (few : i < files_most) (f : FileFits ns bs i) where
  slot-size : length (oid_slot bs i) ≡ long_name_most
  unfolding oid_slot
  slot-size = length-take-le long_name_most (drop (files_at + file_slot * i) bs) (omega (arith, length-drop (files_at + file_slot * i) bs))

  pub oid-length : length (oid_at ns bs i) ≡ oid_length ns i
  unfolding oid_at
  oid-length = let s = f.slot.short in length-take-le (oid_length ns i) (oid_slot bs i) (omega (arith, slot-size))

  pub slot-bytes : padded long_name_most (oid_at ns bs i) ++ padded date_size (date_at bs i) ≡ take file_slot (drop (file_slot * i) (drop files_at bs))
  unfolding oid_at date_at oid_slot
  slot-bytes =
      let at = files_at + file_slot * i + long_name_most in
      let wide : length (take date_size (drop at bs)) ≡ date_size = length-take-le date_size (drop at bs) (omega (arith, length-drop at bs)) in
      rw (
        slot-padded (oid_length ns i) (oid_slot bs i) f.slot slot-size,
        kept-padded (take date_size (drop at bs)) wide,
        drop-drop (file_slot * i) files_at bs,
        ← drop-drop long_name_most (files_at + file_slot * i) bs,
      )
      (sym (take-add long_name_most date_size (drop (files_at + file_slot * i) bs)))
