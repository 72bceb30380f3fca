-- Order, equality and beginnings of byte stretches: what std answers of them, and what stands alike.
use mathlib.Core.Path.{◌≡◌, refl, sym, ◌∙◌}
use mathlib.Core.Bool.{Bool, true, false, false≢true, cond, ◌&&◌}
use mathlib.Core.List.{List, [], ◌∷◌}
use Prim.Native.Nat.{ℕ, zero, suc, ◌+◌, ◌-◌, ◌≤◌, ◌<◌}
use native.Mathlib.Omega.{arith}
use borrow.Author.Tests.{ltb-true, ltb-false, eq-eqb, ne_eqb}
use lib.Dec.{eqb, ltb}
use lib.Pointwise.{pointwise}
use lib.ListN.{length, take, drop, length-drop}
use lib.Seq.{drop-drop}
use Rattle.std.specs.declared.cmp.Ordering.{Ordering}
use Rattle.std.specs.declared.cmp.Ordering.TheVariants.{Less, Equal, Greater}
use Rattle.std.specs.Ordering.{nat_cmp, ordering_then}
use Rattle.std.specs.Cmp.Lexicographic.{slice_cmp}
use Rattle.std.specs.List.{between, starts_with}
use Rattle.std.proofs.lemmas.Slice.{between_to_end}
use Rattle.names.specs.code.KeyParts.{AlikeFor}
use Rattle.names.specs.Order.{and_then, lex, byte_order, bytes_order, alike, same, begins}
use Rattle.names.specs.Pick.{pick, ◌and◌}
use Rattle.names.proofs.Tests.{and_r, not_then}
use Rattle.names.proofs.Walk.{drop_past}

-- What std's `cmp`, `==` and `starts_with` answer of bytes, in the words of specs/Order.
pub cmp-byte : (x y : ℕ) → nat_cmp x y ≡ byte_order x y
unfolding byte_order pick
cmp-byte x y = go (ltb x y) refl (ltb y x) refl
  where
    go : (b : Bool) → ltb x y ≡ b → (c : Bool) → ltb y x ≡ c → cond b Less (cond (eqb x y) Equal Greater) ≡ pick b Less (pick c Greater Equal)
    go true e c f = refl
    go false e true f = let h : y < x = ltb-true y x f in rw (ne_eqb x y (λ q. omega arith))
    go false e false f = let h = ltb-false x y e in let k = ltb-false y x f in rw (eq-eqb x y (omega arith))

pub bytes-cmp : (a b : List ℕ) → slice_cmp nat_cmp a b ≡ bytes_order a b
unfolding bytes_order lex
bytes-cmp [] [] = refl
bytes-cmp [] (y ∷ b) = refl
bytes-cmp (x ∷ a) [] = refl
bytes-cmp (x ∷ a) (y ∷ b) = rw (cmp-byte x y, bytes-cmp a b) (then-is (byte_order x y) (lex byte_order a b))
  where
    then-is : (o r : Ordering) → ordering_then o r ≡ and_then o r
    then-is Less r = refl
    then-is Equal r = refl
    then-is Greater r = refl

-- The library's answer.
pub cmp_told : (o : Ordering) (a b : List ℕ) → o ≡ slice_cmp nat_cmp a b → o ≡ bytes_order a b
cmp_told o a b e = e ∙ bytes-cmp a b

and-is : (b c : Bool) → (b && c) ≡ (b and c)
unfolding ◌and◌
and-is true c = refl
and-is false c = refl

pub bytes-eq : (a b : List ℕ) → pointwise eqb a b ≡ same a b
unfolding same alike
bytes-eq [] [] = refl
bytes-eq [] (y ∷ b) = refl
bytes-eq (x ∷ a) [] = refl
bytes-eq (x ∷ a) (y ∷ b) = and-is (eqb x y) (pointwise eqb a b) ∙ rw (bytes-eq a b)

bytes-start : (w s : List ℕ) → starts_with eqb s w ≡ begins eqb w s
unfolding begins
bytes-start [] s = refl
bytes-start (x ∷ w) [] = refl
bytes-start (x ∷ w) (y ∷ s) = and-is (eqb x y) (pointwise eqb w (take (length w) s)) ∙ rw (bytes-start w s)

pub bytes-start-at : (w s : List ℕ) (at : ℕ) → starts_with eqb (between at (length s) s) w ≡ begins eqb w (drop at s)
bytes-start-at w s at = rw (between_to_end s at (length s) (omega arith)) (bytes-start w (drop at s))

-- What begins with a list reaches as far.
pub begins_reaches : {A : Type 0} (r : A → A → Bool) (xs ys : List A) → begins r xs ys ≡ true → length xs ≤ length ys
unfolding begins
begins_reaches r [] ys e = omega arith
begins_reaches r (x ∷ xs) [] e = absurd (false≢true e)
begins_reaches r (x ∷ xs) (y ∷ ys) e = let h = begins_reaches r xs ys (and_r (r x y) _ e) in omega arith

pub begins_longer : (w l : List ℕ) → length l < length w → begins eqb w l ≡ false
begins_longer w l h = not_then (begins eqb w l) (λ e. let k = begins_reaches eqb w l e in omega arith)

pub begins-end : (w s : List ℕ) (at i : ℕ) → begins eqb w (drop at s) ≡ begins eqb (drop i w) (drop (at + i) s) → length w ≤ i → true ≡ begins eqb w (drop at s)
unfolding begins
begins-end w s at i inv h = sym (inv ∙ rw (drop_past w i h))

-- What stands alike from both starts is passed at once.
begins_past : (n : ℕ) (w x : List ℕ) → n ≤ length w → n ≤ length x → take n x ≡ take n w → begins eqb w x ≡ begins eqb (drop n w) (drop n x)
unfolding begins ◌and◌
begins_past zero w x h k e = refl
begins_past (suc n) [] x h k e = absurd (omega arith)
begins_past (suc n) (b ∷ w) [] h k e = absurd (omega arith)
begins_past (suc n) (b ∷ w) (c ∷ x) h k e =
    let f : c ≡ b = cc in
    let g : take n x ≡ take n w = cc in
    rw (f, eq-eqb b b refl) (begins_past n w x (omega arith) (omega arith) g)

pub begins-alike : (w s : List ℕ) (at i : ℕ) → AlikeFor s at w 0 i → begins eqb w (drop at s) ≡ begins eqb (drop i w) (drop (at + i) s)
begins-alike w s at i a =
    let h = a.first in
    let k = a.second in
    let l = length-drop at s in
    begins_past i w (drop at s) (omega arith) (omega arith) a.alike ∙ rw drop-drop

-- A text that ends before w does.
pub begins-less : (w s : List ℕ) (at : ℕ) → length s - at < length w → false ≡ begins eqb w (drop at s)
begins-less w s at h = let l = length-drop at s in sym (begins_longer w (drop at s) (omega arith))
