-- Rows of numbers in a part of a buffer: the part begins at `base`, the row at `at` in it.
use mathlib.Core.Path.{◌≡◌, refl, ◌∙◌}
use mathlib.Core.List.{List, [], ◌∷◌}
use Prim.Native.Nat.{ℕ, zero, suc, ◌+◌, ◌*◌, ◌≤◌}
use native.Mathlib.Omega.{arith}
use lib.ListN.{length, take, drop, get_or, length-drop}
use lib.Seq.{get_or-drop, drop-cons}
use Rattle.store.specs.Image.{contents_size, file_row, change_row}
use Rattle.store.specs.code.Layout.{file_number}
use Rattle.store.specs.code.Rows.{rows_at, row_number}

-- The numbers of n columns, from column k on.
abbrev pub columns_from : ℕ → ℕ → (ℕ → ℕ) → List ℕ
columns_from k zero f = []
columns_from k (suc n) f = f k ∷ columns_from (suc k) n f

pub columns_of : (l : List ℕ) (n k : ℕ) → k + n ≤ length l → take n (drop k l) ≡ columns_from k n (λ j. get_or l j 0)
columns_of l zero k h = refl
columns_of l (suc n) k h = rw (drop-cons l k 0 (omega arith), columns_of l n (suc k) (omega arith))

columns_same : (f g : ℕ → ℕ) → ((k : ℕ) → f k ≡ g k) → (n k : ℕ) → columns_from k n f ≡ columns_from k n g
columns_same f g e zero k = refl
columns_same f g e (suc n) k = rw (e k, columns_same f g e n (suc k))

module _ (ns : List ℕ) (base at : ℕ) where
  number_at : (k : ℕ) → get_or (drop at (drop base ns)) k 0 ≡ get_or ns (base + at + k) 0
  number_at k =
      let e : base + (at + k) ≡ base + at + k = omega arith in
      rw (get_or-drop at (drop base ns) k 0, get_or-drop base ns (at + k) 0, e)

  numbers-at : (n : ℕ) → base + at + n ≤ length ns → take n (drop at (drop base ns)) ≡ columns_from 0 n (λ k. get_or ns (base + at + k) 0)
  numbers-at n h =
      columns_of (drop at (drop base ns)) n 0 (omega (arith, length-drop at (drop base ns), length-drop base ns))
      ∙ columns_same (λ k. get_or (drop at (drop base ns)) k 0) (λ k. get_or ns (base + at + k) 0) number_at n 0

-- The rows of the changes and of the files.
module _ (ns : List ℕ) (i : ℕ) where
  pub row_number_lem : (k : ℕ) → get_or (drop (change_row * i) (drop rows_at ns)) k 0 ≡ row_number ns k i
  unfolding row_number
  row_number_lem k = number_at ns rows_at (change_row * i) k

  pub row-numbers : rows_at + change_row * i + change_row ≤ length ns → take change_row (drop (change_row * i) (drop rows_at ns)) ≡ columns_from 0 change_row (λ k. row_number ns k i)
  unfolding row_number
  row-numbers h = numbers-at ns rows_at (change_row * i) change_row h

  pub file-number : (k : ℕ) → get_or (drop (file_row * i) (drop contents_size ns)) k 0 ≡ file_number ns k i
  unfolding file_number
  file-number k = number_at ns contents_size (file_row * i) k

  pub file-numbers : contents_size + file_row * i + file_row ≤ length ns → take file_row (drop (file_row * i) (drop contents_size ns)) ≡ columns_from 0 file_row (λ k. file_number ns k i)
  unfolding file_number
  file-numbers h = numbers-at ns contents_size (file_row * i) file_row h
