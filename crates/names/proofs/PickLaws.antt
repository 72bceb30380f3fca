-- The laws of `pick` and `_and_`, backwards: what a branch of the code showed decides the test. `search picks` and `search ands` go down a chain.
use mathlib.Core.Path.{◌≡◌, refl, sym, ◌∙◌}
use mathlib.Core.Bool.{Bool, true, false, ◌&&◌, cond}
use Prim.Native.Nat.{ℕ, ◌≤◌, ◌<◌}
use lib.Dec.{ltb, leb, eqb}
use borrow.Author.Tests.{lt-ltb, le-ltb, le-leb, lt-leb, eq-eqb, ne_eqb}
use Rattle.names.specs.Pick.{pick, ◌and◌}

module _ {A : Type 0} where
  pub on_true : (b : Bool) (x y z : A) → b ≡ true → z ≡ x → z ≡ pick b x y
  unfolding pick
  on_true b x y z e g = rw e g

  pub on_false : (b : Bool) (x y z : A) → b ≡ false → z ≡ y → z ≡ pick b x y
  unfolding pick
  on_false b x y z e g = rw e g

  -- a test that a called function made
  pub pick_yes : (t b : Bool) (x y z : A) → t ≡ b → t ≡ true → z ≡ x → z ≡ pick b x y
  pick_yes t b x y z e f g = on_true b x y z (sym e ∙ f) g

  pub pick_no : (t b : Bool) (x y z : A) → t ≡ b → t ≡ false → z ≡ y → z ≡ pick b x y
  pick_no t b x y z e f g = on_false b x y z (sym e ∙ f) g

  -- a comparison
  pub pick_lt : (m n : ℕ) (x y z : A) → m < n → z ≡ x → z ≡ pick (ltb m n) x y
  pick_lt m n x y z h g = on_true (ltb m n) x y z (lt-ltb m n h) g

  pub pick_nlt : (m n : ℕ) (x y z : A) → n ≤ m → z ≡ y → z ≡ pick (ltb m n) x y
  pick_nlt m n x y z h g = on_false (ltb m n) x y z (le-ltb m n h) g

  pub pick_le : (m n : ℕ) (x y z : A) → m ≤ n → z ≡ x → z ≡ pick (leb m n) x y
  pick_le m n x y z h g = on_true (leb m n) x y z (le-leb m n h) g

  pub pick_nle : (m n : ℕ) (x y z : A) → n < m → z ≡ y → z ≡ pick (leb m n) x y
  pick_nle m n x y z h g = on_false (leb m n) x y z (lt-leb m n h) g

  pub pick_eq : (m n : ℕ) (x y z : A) → m ≡ n → z ≡ x → z ≡ pick (eqb m n) x y
  pick_eq m n x y z h g = on_true (eqb m n) x y z (eq-eqb m n h) g

  pub pick_ne : (m n : ℕ) (x y z : A) → (m ≡ n → ⊥) → z ≡ y → z ≡ pick (eqb m n) x y
  pick_ne m n x y z h g = on_false (eqb m n) x y z (ne_eqb m n h) g

  pub picked : (z : A) → z ≡ z
  picked z = refl

pub ruleset picks = (picked, pick_lt, pick_nlt, pick_le, pick_nle, pick_eq, pick_ne, pick_yes, pick_no)

-- The library's own choice and conjunction.
pub pick_is : {A : Type 0} (b : Bool) (x y : A) → pick b x y ≡ cond b x y
unfolding pick
pick_is true x y = refl
pick_is false x y = refl

pub and_is : (a b : Bool) → (a and b) ≡ (a && b)
unfolding ◌and◌
and_is true b = refl
and_is false b = refl

and_true : (a b r : Bool) → a ≡ true → r ≡ b → r ≡ (a and b)
unfolding ◌and◌
and_true a b r e g = rw e g

and_false : (a b : Bool) → a ≡ false → false ≡ (a and b)
unfolding ◌and◌
and_false a b e = rw e

pub and_yes : (t a b r : Bool) → t ≡ a → t ≡ true → r ≡ b → r ≡ (a and b)
and_yes t a b r e f g = and_true a b r (sym e ∙ f) g

pub and_no : (t a b : Bool) → t ≡ a → t ≡ false → false ≡ (a and b)
and_no t a b e f = and_false a b (sym e ∙ f)

-- the answer of the first test itself, where it decides
pub and_short : (t a b : Bool) → t ≡ a → t ≡ false → t ≡ (a and b)
and_short t a b e f = f ∙ and_false a b (sym e ∙ f)

pub and_le : (m n : ℕ) (b r : Bool) → m ≤ n → r ≡ b → r ≡ (leb m n and b)
and_le m n b r h g = and_true (leb m n) b r (le-leb m n h) g

pub and_nle : (m n : ℕ) (b : Bool) → n < m → false ≡ (leb m n and b)
and_nle m n b h = and_false (leb m n) b (lt-leb m n h)

pub and_eq : (m n : ℕ) (b r : Bool) → m ≡ n → r ≡ b → r ≡ (eqb m n and b)
and_eq m n b r h g = and_true (eqb m n) b r (eq-eqb m n h) g

pub and_ne : (m n : ℕ) (b : Bool) → (m ≡ n → ⊥) → false ≡ (eqb m n and b)
and_ne m n b h = and_false (eqb m n) b (ne_eqb m n h)

pub and_last : (r : Bool) → r ≡ r
and_last r = refl

-- a last comparison with a number that a called function gave
pub and_last_le : (m n k : ℕ) → n ≡ k → leb m n ≡ leb m k
and_last_le m n k e = rw e

pub ruleset ands = (and_last, and_last_le, and_le, and_nle, and_eq, and_ne, and_yes, and_no, and_short)
