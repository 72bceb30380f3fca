-- Tests that hold, one after another.
use mathlib.Core.Path.{◌≡◌, refl, sym}
use mathlib.Core.Bool.{Bool, true, false, not, ◌||◌, false≢true}
use mathlib.Core.List.{List, [], ◌∷◌, ◌++◌}
use Prim.Native.Nat.{ℕ, zero, suc, ◌<◌}
use native.Mathlib.Decide.{ℕ_discrete}
use native.Mathlib.Nat.{not-suc-le-zero}
use native.Mathlib.Omega.{arith}
use Rattle.names.specs.Bytes.{all}
use Rattle.names.specs.Pick.{◌and◌}

pub and_l : (a b : Bool) → (a and b) ≡ true → a ≡ true
unfolding ◌and◌
and_l true b e = refl
and_l false b e = e

pub and_r : (a b : Bool) → (a and b) ≡ true → b ≡ true
unfolding ◌and◌
and_r true b e = e
and_r false b e = absurd (false≢true e)

pub and_i : (a b : Bool) → a ≡ true → b ≡ true → (a and b) ≡ true
unfolding ◌and◌
and_i a b e f = rw (e, f)

pub and_true : (a : Bool) → (a and true) ≡ a
unfolding ◌and◌
and_true true = refl
and_true false = refl

pub and_false : (a : Bool) → (a and false) ≡ false
unfolding ◌and◌
and_false true = refl
and_false false = refl

pub and_assoc : (a b c : Bool) → ((a and b) and c) ≡ (a and b and c)
unfolding ◌and◌
and_assoc true b c = refl
and_assoc false b c = refl

-- The other way to join two tests.
pub or_true : (a : Bool) → (a || true) ≡ true
or_true true = refl
or_true false = refl

pub or_false : (a : Bool) → (a || false) ≡ a
or_false true = refl
or_false false = refl

pub or_l : (a b : Bool) → (a || b) ≡ false → a ≡ false
or_l true b e = e
or_l false b e = refl

pub or_r : (a b : Bool) → (a || b) ≡ false → b ≡ false
or_r true b e = absurd (false≢true (sym e))
or_r false b e = e

-- Two tests that imply each other are one.
pub each_way : (a b : Bool) → (a ≡ true → b ≡ true) → (b ≡ true → a ≡ true) → a ≡ b
each_way true b f g = sym (f refl)
each_way false true f g = g refl
each_way false false f g = refl

-- A test is false where it cannot be true.
pub not_then : (b : Bool) → (b ≡ true → ⊥) → b ≡ false
not_then true h = absurd (h refl)
not_then false h = refl

-- One test computed at every number below n.
abbrev pub below : ℕ → (ℕ → Bool) → Bool
below zero f = true
below (suc n) f = f n and below n f

pub at-below : (n : ℕ) (f : ℕ → Bool) → below n f ≡ true → (c : ℕ) → c < n → f c ≡ true
at-below zero f e c h = absurd (not-suc-le-zero h)
at-below (suc n) f e c h = elim (ℕ_discrete c n) [ yes q ↦ rw q (and_l (f n) _ e) | no q ↦ at-below n f (and_r (f n) _ e) c (omega arith) ]

-- One test implies another.
abbrev pub implies : Bool → Bool → Bool
implies a b = not a || b

pub implied : (a b : Bool) → implies a b ≡ true → a ≡ true → b ≡ true
implied true b e h = e
implied false b e h = absurd (false≢true h)

-- A test of all elements, of two lists joined.
module _ {A : Type 0} (p : A → Bool) where
  pub all_append : (xs ys : List A) → all p xs ≡ true → all p ys ≡ true → all p (xs ++ ys) ≡ true
  unfolding all
  all_append [] ys e f = f
  all_append (x ∷ xs) ys e f = and_i (p x) (all p (xs ++ ys)) (and_l _ _ e) (all_append xs ys (and_r (p x) _ e) f)

  pub all_one : (x : A) → p x ≡ true → all p (x ∷ []) ≡ true
  unfolding all ◌and◌
  all_one x e = rw e

  pub all_head : (x : A) (xs : List A) → all p (x ∷ xs) ≡ true → p x ≡ true
  unfolding all
  all_head x xs e = and_l _ _ e

  pub all_left : (xs ys : List A) → all p (xs ++ ys) ≡ true → all p xs ≡ true
  unfolding all
  all_left [] ys e = refl
  all_left (x ∷ xs) ys e = and_i (p x) (all p xs) (and_l _ _ e) (all_left xs ys (and_r (p x) _ e))

  pub all_right : (xs ys : List A) → all p (xs ++ ys) ≡ true → all p ys ≡ true
  unfolding all
  all_right [] ys e = e
  all_right (x ∷ xs) ys e = all_right xs ys (and_r (p x) _ e)

-- A test that implies another at each element implies it of the whole list.
pub all_implied : {A : Type 0} (p q : A → Bool) → ((x : A) → p x ≡ true → q x ≡ true) → (xs : List A) → all p xs ≡ true → all q xs ≡ true
unfolding all
all_implied p q f [] e = refl
all_implied p q f (x ∷ xs) e = and_i (q x) (all q xs) (f x (and_l (p x) (all p xs) e)) (all_implied p q f xs (and_r (p x) (all p xs) e))
