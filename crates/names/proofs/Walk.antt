-- A loop's index and the list that is left: at i within the list, `drop i l` is the element and `drop (i + 1) l`; past it, nothing.
use mathlib.Core.Path.{◌≡◌, sym}
use mathlib.Core.List.{List, [], ◌∷◌}
use Prim.Native.Nat.{ℕ, zero, suc, ◌+◌, ◌-◌, ◌≤◌, ◌<◌}
use native.Mathlib.Numerals.{add-one}
use native.Mathlib.Omega.{arith}
use lib.ListN.{length, get_or, take, drop, drop_of_length-le, replicate}
use lib.Seq.{drop-cons, take-nil}

module _ {A : Type 0} where
  pub drop-at-element : (d : A) (l : List A) (i : ℕ) → i < length l → drop i l ≡ get_or l i d ∷ drop (i + 1) l
  drop-at-element d l i h = rw (add-one, drop-cons l i d)

  pub drop-take : (l w : ℕ) (s : List A) → drop l (take w s) ≡ take (w - l) (drop l s)
  drop-take zero w s = let z : w - 0 ≡ w = omega arith in rw z
  drop-take (suc l) zero s = let z : 0 - suc l ≡ 0 = omega arith in rw z
  drop-take (suc l) (suc w) [] = sym (take-nil (suc w - suc l))
  drop-take (suc l) (suc w) (x ∷ s) = let z : suc w - suc l ≡ w - l = omega arith in rw z (drop-take l w s)

  pub drop_past : (l : List A) (i : ℕ) → length l ≤ i → drop i l ≡ []
  drop_past l i h = drop_of_length-le l h

pub drop_here : (l : List ℕ) (i : ℕ) → i < length l → drop i l ≡ get_or l i 0 ∷ drop (i + 1) l
drop_here l i h = drop-at-element 0 l i h

-- Copies of one number without the first.
pub drop-replicate : (m n v : ℕ) → drop m (replicate n v) ≡ replicate (n - m) v
drop-replicate zero n v = let e : n - 0 ≡ n = omega arith in rw e
drop-replicate (suc m) zero v = let e : 0 - suc m ≡ 0 = omega arith in rw e
drop-replicate (suc m) (suc n) v = let e : suc n - suc m ≡ n - m = omega arith in rw e (drop-replicate m n v)
