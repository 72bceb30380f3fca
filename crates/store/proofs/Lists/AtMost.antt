-- Lists whose numbers are all at most a bound.
use mathlib.Core.Path.{◌≡◌, refl}
use mathlib.Core.Bool.{Bool, true}
use mathlib.Core.List.{List, [], ◌∷◌, ◌++◌}
use Prim.Native.Nat.{ℕ, zero, suc, ◌-◌, ◌≤◌}
use native.Mathlib.Omega.{arith}
use lib.Dec.{leb}
use lib.ListN.{length, get_or, replicate}
use borrow.Author.Tests.{le-leb}
use Rattle.names.specs.Bytes.{all}
use Rattle.names.proofs.Tests.{and_l, and_r, and_i, all_append}
use Rattle.store.specs.Image.{padded}

-- Every number of a list is at most b.
abbrev pub at_most : ℕ → List ℕ → Type 0
at_most b s = all (λ n. leb n b) s ≡ true

-- An element of a list that passes a test throughout, at any place.
pub all-at : (p : ℕ → Bool) (s : List ℕ) (i : ℕ) → p 0 ≡ true → all p s ≡ true → p (get_or s i 0) ≡ true
unfolding all
all-at p [] i z e = z
all-at p (x ∷ s) zero z e = and_l _ _ e
all-at p (x ∷ s) (suc i) z e = all-at p s i z (and_r (p x) _ e)

module _ (b : ℕ) where
  pub most_cons : (n : ℕ) (s : List ℕ) → n ≤ b → at_most b s → at_most b (n ∷ s)
  unfolding all
  most_cons n s h e = and_i (leb n b) _ (le-leb n b h) e

  pub most_nil : at_most b []
  unfolding all
  most_nil = refl

  pub most-append : (s t : List ℕ) → at_most b s → at_most b t → at_most b (s ++ t)
  most-append s t e f = all_append (λ n. leb n b) s t e f

  pub most-zeros : (n : ℕ) → at_most b (replicate n 0)
  most-zeros zero = most_nil
  most-zeros (suc n) = most_cons 0 (replicate n 0) (omega arith) (most-zeros n)

  pub most-padded : (n : ℕ) (s : List ℕ) → at_most b s → at_most b (padded n s)
  unfolding padded
  most-padded n s e = most-append s (replicate (n - length s) 0) e (most-zeros (n - length s))
