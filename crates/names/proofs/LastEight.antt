-- The last eight bytes of a text that is looked for, compared as one number: the bytes before them stand alike.
use mathlib.Core.Path.{◌≡◌, refl, sym, ap, subst, ◌∙◌}
use mathlib.Core.Bool.{true, false, false≢true}
use mathlib.Core.List.{List, [], ◌∷◌}
use Prim.Native.Nat.{ℕ, ◌+◌, ◌*◌, ◌-◌, ◌≤◌, ◌<◌}
use native.Mathlib.Omega.{arith}
use borrow.Author.Tests.{eqb-true}
use lib.Dec.{eqb}
use lib.ListN.{length, get_or, take, drop}
use lib.Seq.{drop-drop, take_all}
use Rattle.names.specs.code.KeyParts.{four_at, AlikeFor}
use Rattle.names.specs.Order.{begins}
use Rattle.names.proofs.KeyAlike.{four_at_lem, alike_fewer, alike-more}
use Rattle.names.proofs.Stretch.{begins-alike, begins-end}
use Rattle.names.proofs.Tests.{and_l, and_r, not_then}
use Rattle.names.proofs.Walk.{drop-take}

-- Four bytes that stand alike are the same number.
four_alike : (s t : List ℕ) (p q : ℕ) → AlikeFor s p t q 4 → four_at s p ≡ four_at t q
four_alike s t p q a =
    let e : get_or s p 0 ∷ get_or s (p + 1) 0 ∷ get_or s (p + 2) 0 ∷ get_or s (p + 3) 0 ∷ [] ≡ get_or t q 0 ∷ get_or t (q + 1) 0 ∷ get_or t (q + 2) 0 ∷ get_or t (q + 3) 0 ∷ [] =
    sym (four_at_lem s p a.first) ∙ a.alike ∙ four_at_lem t q a.second in
    let b : get_or s p 0 ≡ get_or t q 0 = cc in
    let c : get_or s (p + 1) 0 ≡ get_or t (q + 1) 0 = cc in
    let d : get_or s (p + 2) 0 ≡ get_or t (q + 2) 0 = cc in
    let f : get_or s (p + 3) 0 ≡ get_or t (q + 3) 0 = cc in
    rw (b, c, d, f)

-- What begins with w has its bytes.
begins-take : (w x : List ℕ) → begins eqb w x ≡ true → take (length w) x ≡ w
unfolding begins
begins-take [] x e = refl
begins-take (b ∷ w) [] e = absurd (false≢true e)
begins-take (b ∷ w) (c ∷ x) e =
    let f : b ≡ c = eqb-true b c (and_l (eqb b c) _ e) in
    let g : take (length w) x ≡ w = begins-take w x (and_r (eqb b c) _ e) in
    rw (f, g)

-- Bytes further on stand alike too.
alike-later : (s : List ℕ) (p : ℕ) (t : List ℕ) (q m n : ℕ) → AlikeFor s p t q (m + n) → AlikeFor s (p + m) t (q + m) n
alike-later s p t q m n a =
    let u = a.first in
    let v = a.second in
    let z : m + n - m ≡ n = omega arith in
    let behind : (l : List ℕ) (k : ℕ) → drop m (take (m + n) (drop k l)) ≡ take n (drop (k + m) l) = λ l k. drop-take m (m + n) (drop k l) ∙ rw (z, drop-drop m k l) in
    record { first = omega arith; second = omega arith; alike = sym (behind s p) ∙ ap (drop m) a.alike ∙ behind t q }

whole-alike : (s : List ℕ) (at : ℕ) (w : List ℕ) → length w ≤ length s - at → at ≤ length s → begins eqb w (drop at s) ≡ true → AlikeFor s at w 0 (length w)
whole-alike s at w h k e =
    record { first = omega arith; second = omega arith; alike = begins-take w (drop at s) e ∙ sym (take_all (length w) w (omega arith)) }

-- The two numbers.
module _ (s : List ℕ) (at : ℕ) (w : List ℕ) (x y : ℕ) (inside : at ≤ length s) (long : 8 ≤ length w) (room : length w ≤ length s - at)
    (x-is : x ≡ four_at s (at + (length w - 8)) + 4294967296 * four_at s (at + (length w - 8) + 4))
    (y-is : y ≡ four_at w (length w - 8) + 4294967296 * four_at w (length w - 8 + 4)) where
  abbrev l : ℕ
  l = length w - 8

  begins_then : begins eqb w (drop at s) ≡ true → x ≡ y
  begins_then e =
      let z : l + 8 ≡ length w = omega arith in
      let whole : AlikeFor s at w 0 (l + 8) = rw z (whole-alike s at w room inside e) in
      let none : 0 + l ≡ l = omega arith in
      let last : AlikeFor s (at + l) w l 8 = subst (λ (k : ℕ). AlikeFor s (at + l) w k 8) none (alike-later s at w 0 l 8 whole) in
      let low = four_alike s w (at + l) l (alike_fewer s (at + l) w l 4 8 (omega arith) last) in
      let high = four_alike s w (at + l + 4) (l + 4) (alike-later s (at + l) w l 4 4 last) in
      x-is ∙ rw (low, high) (sym y-is)

  pub last_differs : (x ≡ y → ⊥) → false ≡ begins eqb w (drop at s)
  last_differs n = sym (not_then (begins eqb w (drop at s)) (λ e. n (begins_then e)))

  pub last_alike : (i : ℕ) → ((i : ℕ) → get_or s i 0 < 256) → ((i : ℕ) → get_or w i 0 < 256) → AlikeFor s at w 0 i → l ≤ i → x ≡ y → true ≡ begins eqb w (drop at s)
  last_alike i first second alike near g =
      let z : 0 + l ≡ l = omega arith in
      let front : AlikeFor s at w 0 l = alike_fewer s at w 0 l i near alike in
      let whole = alike-more s at w 0 l x y first second front (omega arith) (omega arith) x-is (rw z y-is) g in
      begins-end w s at (l + 8) (begins-alike w s at (l + 8) whole) (omega arith)
