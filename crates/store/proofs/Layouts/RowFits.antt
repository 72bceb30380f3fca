-- A change row that fits: its bytes are the change's, and the change is read from them.
use mathlib.Core.Path.{◌≡◌, refl, sym, ◌∙◌, ap}
use mathlib.Core.Bool.{true, false≢true}
use mathlib.Core.List.{List, ◌++◌, append_assoc}
use mathlib.Core.Option.{Option, none, some}
use Prim.Native.Nat.{ℕ, suc, ◌+◌, ◌-◌, ◌≤◌, ◌<◌}
use native.Mathlib.Omega.{arith}
use lib.Dec.{eqb, leb}
use lib.ListN.{length, take, drop, length-drop, take-append-drop}
use lib.Seq.{length-take-le, drop-drop, drop-append_seam}
use borrow.Author.Tests.{leb-true, le-leb, eqb-true}
use Rattle.names.specs.Key.{Key, names_used, names_in, depth_of, packed}
use Rattle.names.specs.code.HeldKey.{KeyRead, read_key}
use Rattle.names.specs.Pick.{pick, ◌and◌}
use Rattle.names.proofs.Tests.{and_l, and_r, at-below, implies, implied}
use Rattle.names.proofs.Walk.{drop-take}
use Rattle.store.specs.Change.{kind_number, is_change, change_bytes}
use Rattle.store.specs.Image.{bytes_size, kind_of, change_in}
use Rattle.store.specs.code.Layout.{row_bytes, is_whole, row_fits, rows_fit}
use Rattle.store.specs.Machine.{bytes_most}
use Rattle.store.specs.code.Rows.{packed_at, kind_at, depth_at, end_at, start_at, key_start, key_at, value_at, change_at}
use Rattle.store.proofs.Lists.FirstPlaces.{each_at, each_first, before-next}
use Rattle.names.proofs.KeyPacked.{packed-read, names-read, names-packed}
use Rattle.names.proofs.KeyForm.{depth_used}

-- The names that were read whole are read whatever stands behind the text.
pub names-read-more : (n : ℕ) (s : List ℕ) (r : KeyRead) → read_key n s ≡ some r → (t : List ℕ) → names_in n (s ++ t) ≡ r.key
names-read-more n s r e t =
    let p = packed-read n s r e in
    rw (← p.0, ← p.1, append_assoc) (names-packed r.key (r.rest ++ t))

-- What the test of a row says.
pub record RowFits (ns bs : List ℕ) (i : ℕ) : Type 0 where
  pub kind-low : 1 ≤ kind_at ns i
  pub kind-high : kind_at ns i ≤ 3
  pub depth_low : 1 ≤ depth_at ns i
  pub depth-high : depth_at ns i ≤ 5
  pub order : start_at ns i ≤ end_at ns i
  pub end-high : end_at ns i ≤ bytes_most
  pub read : KeyRead
  pub whole : read_key (names_used (depth_at ns i)) (row_bytes ns bs i) ≡ some read
  pub formed : is_change (change_at ns bs i) ≡ true

whole-read : (o : Option KeyRead) → is_whole o ≡ true → (r : KeyRead) × (o ≡ some r)
unfolding is_whole
whole-read none e = absurd (false≢true e)
whole-read (some r) e = (r, refl)

pub row_fits_lem : (ns bs : List ℕ) (i : ℕ) → row_fits ns bs i ≡ true → RowFits ns bs i
unfolding row_fits
row_fits_lem ns bs i e =
    let e1 = and_r (leb 1 (kind_at ns i)) _ e in
    let e2 = and_r (leb (kind_at ns i) 3) _ e1 in
    let e3 = and_r (leb 1 (depth_at ns i)) _ e2 in
    let e4 = and_r (leb (depth_at ns i) 5) _ e3 in
    let e5 = and_r (leb (start_at ns i) (end_at ns i)) _ e4 in
    let e6 = and_r (leb (end_at ns i) bytes_most) _ e5 in
    let w = whole-read (read_key (names_used (depth_at ns i)) (row_bytes ns bs i)) (and_l _ _ e6) in
    record {
      kind-low = leb-true _ _ (and_l _ _ e);
      kind-high = leb-true _ _ (and_l _ _ e1);
      depth_low = leb-true _ _ (and_l _ _ e2);
      depth-high = leb-true _ _ (and_l _ _ e3);
      order = leb-true _ _ (and_l _ _ e4);
      end-high = leb-true _ _ (and_l _ _ e5);
      read = w.0;
      whole = w.1;
      formed = and_r (is_whole (read_key (names_used (depth_at ns i)) (row_bytes ns bs i))) _ e6;
    }

pub row_fits_by : (ns bs : List ℕ) (i : ℕ) → RowFits ns bs i → row_fits ns bs i ≡ true
unfolding row_fits is_whole ◌and◌
row_fits_by ns bs i f =
    rw (
      le-leb _ _ f.kind-low,
      le-leb _ _ f.kind-high,
      le-leb _ _ f.depth_low,
      le-leb _ _ f.depth-high,
      le-leb _ _ f.order,
      le-leb _ _ f.end-high,
      f.whole,
    )
    f.formed

-- Each of the first n rows fits, and fewer of them fit.
pub row-fits-at : (ns bs : List ℕ) (n i : ℕ) → rows_fit ns bs n ≡ true → i < n → RowFits ns bs i
unfolding rows_fit
row-fits-at ns bs n i e h = row_fits_lem ns bs i (each_at (rows_fit ns bs) (row_fits ns bs) (λ n. refl) n i e h)

pub rows_fit-first : (ns bs : List ℕ) (k n : ℕ) → k ≤ n → rows_fit ns bs n ≡ true → rows_fit ns bs k ≡ true
unfolding rows_fit
rows_fit-first ns bs k n h e = each_first (rows_fit ns bs) (row_fits ns bs) (λ n. refl) k n h e

-- The start of the next row.
pub start-next : (ns : List ℕ) (i : ℕ) → start_at ns (suc i) ≡ end_at ns i
unfolding start_at
start-next ns i = before-next (end_at ns) i

-- Numbers of kinds.
pub kind_numbered : (k : ℕ) → 1 ≤ k → k ≤ 3 → kind_number (kind_of k) ≡ k
unfolding kind_of kind_number pick ◌and◌
kind_numbered k l h = eqb-true _ _ (implied (leb 1 k) _ (at-below 4 (λ k. implies (leb 1 k) (eqb (kind_number (kind_of k)) k)) refl k (omega arith)) (le-leb 1 k l))

module _ (ns bs : List ℕ) (size : length bs ≡ bytes_size) (i : ℕ) (f : RowFits ns bs i) where
  -- The bytes of the row, and what stands from them on.
  row_from : drop (packed_at + start_at ns i) bs ≡ row_bytes ns bs i ++ drop (end_at ns i - start_at ns i) (drop (packed_at + start_at ns i) bs)
  unfolding row_bytes
  row_from = sym (take-append-drop (end_at ns i - start_at ns i) (drop (packed_at + start_at ns i) bs))

  pub row-length : length (row_bytes ns bs i) ≡ end_at ns i - start_at ns i
  unfolding row_bytes
  row-length =
      let o = f.order in
      let h = f.end-high in
      length-take-le (end_at ns i - start_at ns i) (drop (packed_at + start_at ns i) bs) (omega (arith, length-drop (packed_at + start_at ns i) bs))

  row-packed : packed f.read.key ++ f.read.rest ≡ row_bytes ns bs i
  row-packed = (packed-read _ _ f.read f.whole).0

  row-key : key_at ns bs i ≡ f.read.key
  unfolding key_at key_start
  row-key = rw row_from (names-read-more _ (row_bytes ns bs i) f.read f.whole (drop (end_at ns i - start_at ns i) (drop (packed_at + start_at ns i) bs)))

  -- Its key stands whole.
  pub key-stands : drop (packed_at + key_start ns i) bs ≡ packed (key_at ns bs i) ++ (f.read.rest ++ drop (end_at ns i - start_at ns i) (drop (packed_at + start_at ns i) bs))
  unfolding key_start
  key-stands =
      row_from
      ∙ ap (λ (x : List ℕ). x ++ drop (end_at ns i - start_at ns i) (drop (packed_at + start_at ns i) bs)) (sym row-packed ∙ ap (λ (k : Key). packed k ++ f.read.rest) (sym row-key))
      ∙ append_assoc (packed (key_at ns bs i)) f.read.rest (drop (end_at ns i - start_at ns i) (drop (packed_at + start_at ns i) bs))

  row-value : value_at ns bs i ≡ f.read.rest
  unfolding value_at key_start row_bytes
  row-value =
      let p : ℕ = length (packed f.read.key) in
      let w : ℕ = end_at ns i - start_at ns i in
      let a : take (w - p) (drop p (drop (packed_at + start_at ns i) bs)) ≡ drop p (row_bytes ns bs i) = sym (drop-take p w (drop (packed_at + start_at ns i) bs)) in
      let b : drop p (row_bytes ns bs i) ≡ f.read.rest = rw (← row-packed) (drop-append_seam (packed f.read.key) f.read.rest) in
      rw (row-key, ← drop-drop p (packed_at + start_at ns i) bs) (a ∙ b)

  pub row-bytes : change_bytes (change_at ns bs i) ≡ row_bytes ns bs i
  unfolding change_bytes
  row-bytes = rw (row-key, row-value) row-packed

  pub row-change : change_in (kind_at ns i) (depth_at ns i) (row_bytes ns bs i) ≡ change_at ns bs i
  unfolding change_in
  row-change =
      let n : names_in (names_used (depth_at ns i)) (row_bytes ns bs i) ≡ f.read.key = names-read _ (row_bytes ns bs i) f.read f.whole in
      let b : drop (length (packed f.read.key)) (row_bytes ns bs i) ≡ f.read.rest = rw (← row-packed) (drop-append_seam (packed f.read.key) f.read.rest) in
      rw (n, b, row-key, row-value)

  pub row-kind : kind_number (kind_of (kind_at ns i)) ≡ kind_at ns i
  row-kind = kind_numbered (kind_at ns i) f.kind-low f.kind-high

  pub row-depth : depth_of (key_at ns bs i) ≡ depth_at ns i
  row-depth = rw row-key (depth_used (depth_at ns i) f.read.key f.depth_low f.depth-high (packed-read _ _ f.read f.whole).1)
