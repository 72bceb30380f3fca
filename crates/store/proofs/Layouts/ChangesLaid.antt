-- Change rows that fit: the changes are read from them in order, and their rows and bytes are those that stand in the buffers.
use mathlib.Core.Path.{◌≡◌, refl}
use mathlib.Core.Bool.{true}
use mathlib.Core.List.{List, [], ◌∷◌, ◌++◌, append-nil}
use Prim.Native.Nat.{ℕ, zero, suc, ◌+◌, ◌-◌, ◌*◌, ◌≤◌}
use native.Mathlib.Omega.{arith}
use lib.ListN.{length, take, drop, length-append, length-drop}
use lib.Seq.{length-take-le, take_all, take-add, drop-drop, append_snoc, take-append-le}
use Rattle.names.specs.Pick.{pick}
use Rattle.names.proofs.Tests.{and_l}
use Rattle.store.specs.Change.{change_bytes, changes_bytes}
use Rattle.store.specs.Image.{change_row, numbers_size, bytes_size, change_rows, change_in, changes_in}
use Rattle.store.specs.code.Layout.{row_bytes, rows_fit}
use Rattle.store.specs.Machine.{changes_most, bytes_most}
use Rattle.store.specs.code.Rows.{rows_at, packed_at, kind_at, depth_at, end_at, start_at, change_at, first_changes}
use Rattle.store.proofs.Lists.RowPlaces.{row_number_lem, row-numbers}
use Rattle.store.proofs.Layouts.RowFits.{row-fits-at, start-next, row-length, row-bytes, row-change, row-kind, row-depth}
use Rattle.store.proofs.Images.RowLaws.{change_rows-append}
use Rattle.store.proofs.Tables.OneChange.{changes_bytes-append}

module _ (ns bs : List ℕ) where
  pub first_changes-length : (n : ℕ) → length (first_changes ns bs n) ≡ n
  unfolding first_changes
  first_changes-length zero = refl
  first_changes-length (suc n) = omega (arith, length-append (first_changes ns bs n) (change_at ns bs n ∷ []), first_changes-length n)

  -- The first of more changes.
  first_of : (k n : ℕ) → take k (first_changes ns bs (k + n)) ≡ first_changes ns bs k
  unfolding first_changes
  first_of k zero =
      let e : k + 0 ≡ k = omega arith in
      rw e (take_all k (first_changes ns bs k) (omega (arith, first_changes-length k)))
  first_of k (suc n) =
      let e : k + suc n ≡ suc (k + n) = omega arith in
      let h : k ≤ length (first_changes ns bs (k + n)) = omega (arith, first_changes-length (k + n)) in
      rw (e, take-append-le k (first_changes ns bs (k + n)) (change_at ns bs (k + n) ∷ []) h) (first_of k n)

  pub first_changes-take : (k n : ℕ) → k ≤ n → take k (first_changes ns bs n) ≡ first_changes ns bs k
  first_changes-take k n h = let e : k + (n - k) ≡ n = omega arith in rw e at (first_of k (n - k))

-- The bytes of the first n changes.
module _ (ns bs : List ℕ) (bytes-size : length bs ≡ bytes_size) where
  pub laid_bytes : (n : ℕ) → rows_fit ns bs n ≡ true → changes_bytes (first_changes ns bs n) ≡ take (start_at ns n) (drop packed_at bs)
  unfolding first_changes changes_bytes start_at rows_fit row_bytes pick
  laid_bytes zero e = refl
  laid_bytes (suc n) e =
      let f = row-fits-at ns bs (suc n) n e (omega arith) in
      let o = f.order in
      let w : ℕ = end_at ns n - start_at ns n in
      let s : start_at ns n + w ≡ end_at ns n = omega arith in
      let c : changes_bytes (change_at ns bs n ∷ []) ≡ take w (drop (start_at ns n) (drop packed_at bs)) =
      rw (append-nil, drop-drop (start_at ns n) packed_at bs) (row-bytes ns bs bytes-size n f) in
      rw (start-next ns n, ← s, take-add (start_at ns n) w (drop packed_at bs), changes_bytes-append, laid_bytes n (and_l _ _ e), c)

  pub start-high : (n : ℕ) → rows_fit ns bs n ≡ true → start_at ns n ≤ bytes_most
  unfolding start_at pick
  start-high zero e = omega arith
  start-high (suc n) e = rw (start-next ns n) (row-fits-at ns bs (suc n) n e (omega arith)).end-high

  pub laid_bytes-length : (n : ℕ) → rows_fit ns bs n ≡ true → length (changes_bytes (first_changes ns bs n)) ≡ start_at ns n
  laid_bytes-length n e =
      let h = start-high n e in
      rw (laid_bytes n e) (length-take-le (start_at ns n) (drop packed_at bs) (omega (arith, length-drop packed_at bs)))

  -- Their rows.
  pub laid_rows : length ns ≡ numbers_size → (n : ℕ) → rows_fit ns bs n ≡ true → n ≤ changes_most
      → change_rows 0 (first_changes ns bs n) ≡ take (change_row * n) (drop rows_at ns)
  unfolding first_changes change_rows rows_fit
  laid_rows size zero e h = refl
  laid_rows size (suc n) e h =
      let f = row-fits-at ns bs (suc n) n e (omega arith) in
      let o = f.order in
      let b : length (change_bytes (change_at ns bs n)) ≡ end_at ns n - start_at ns n = rw (row-bytes ns bs bytes-size n f) (row-length ns bs bytes-size n f) in
      let s : 0 + start_at ns n + length (change_bytes (change_at ns bs n)) ≡ end_at ns n = omega arith in
      let w : change_row * suc n ≡ change_row * n + change_row = omega arith in
      rw (
        change_rows-append 0 (first_changes ns bs n) (change_at ns bs n ∷ []),
        laid_bytes-length n (and_l _ _ e),
        s,
        row-kind ns bs bytes-size n f,
        row-depth ns bs bytes-size n f,
        laid_rows size n (and_l _ _ e) (omega arith),
        w,
        take-add (change_row * n) change_row (drop rows_at ns),
        row-numbers ns n (omega arith),
      )

  -- They are read from the rows, in order.
  changes_in_lem : (n i : ℕ) → rows_fit ns bs (i + n) ≡ true
      → first_changes ns bs i ++ changes_in n (start_at ns i) (drop (change_row * i) (drop rows_at ns)) (drop (start_at ns i) (drop packed_at bs)) ≡ first_changes ns bs (i + n)
  unfolding changes_in first_changes
  changes_in_lem zero i e = let z : i + 0 ≡ i = omega arith in rw (append-nil, z)
  changes_in_lem (suc n) i e =
      let z : i + suc n ≡ suc i + n = omega arith in
      let f = row-fits-at ns bs (i + suc n) i e (omega arith) in
      let o = f.order in
      let w : ℕ = end_at ns i - start_at ns i in
      let d : start_at ns i + w ≡ end_at ns i = omega arith in
      let r : change_row * i + change_row ≡ change_row * suc i = omega arith in
      let c : change_in (kind_at ns i) (depth_at ns i) (take w (drop (start_at ns i) (drop packed_at bs))) ≡ change_at ns bs i =
      rw (drop-drop (start_at ns i) packed_at bs) (unfold row_bytes in row-change ns bs bytes-size i f) in
      let ih = rw start-next at (changes_in_lem n (suc i) (rw (← z) e)) in
      rw (
        row_number_lem ns i 0,
        row_number_lem ns i 1,
        row_number_lem ns i 2,
        c,
        drop-drop change_row (change_row * i) (drop rows_at ns),
        r,
        drop-drop w (start_at ns i) (drop packed_at bs),
        d,
        z,
        ← append_snoc,
      )
      ih

  pub laid_changes_in : (n : ℕ) → rows_fit ns bs n ≡ true → changes_in n 0 (drop rows_at ns) (drop packed_at bs) ≡ first_changes ns bs n
  unfolding start_at first_changes pick
  laid_changes_in n e = let z : 0 + n ≡ n = omega arith in rw z at (changes_in_lem n 0 (rw z e))
