-- What `front`, `after`, `strip` and `skip` find behind bytes that pass.
use mathlib.Core.Path.{◌≡◌, refl, ap}
use mathlib.Core.Bool.{Bool, true, false, false≢true}
use mathlib.Core.List.{List, [], ◌∷◌, ◌++◌}
use mathlib.Core.Option.{some}
use Prim.Native.Nat.{ℕ}
use borrow.Author.Tests.{eq-eqb}
use Rattle.names.specs.Bytes.{all}
use Rattle.names.specs.Pick.{pick}
use Rattle.names.specs.Scan.{front, after}
use Rattle.names.proofs.Tests.{and_l, and_r}
use Rattle.reader.specs.Tag.{strip, first_is}

module _ (p : ℕ → Bool) where
  pub front_at : (s : List ℕ) (c : ℕ) (t : List ℕ) → all p s ≡ true → p c ≡ false → front p (s ++ c ∷ t) ≡ s
  unfolding front all pick
  front_at [] c t e f = rw f
  front_at (d ∷ s) c t e f = rw (and_l (p d) _ e) (ap (λ r. d ∷ r) (front_at s c t (and_r (p d) _ e) f))

  pub after-at : (s : List ℕ) (c : ℕ) (t : List ℕ) → all p s ≡ true → p c ≡ false → after p (s ++ c ∷ t) ≡ c ∷ t
  unfolding after all pick
  after-at [] c t e f = rw f
  after-at (d ∷ s) c t e f = rw (and_l (p d) _ e) (after-at s c t (and_r (p d) _ e) f)

  pub first-append : (s t : List ℕ) → first_is p s ≡ true → first_is p (s ++ t) ≡ true
  unfolding first_is
  first-append [] t e = absurd (false≢true e)
  first-append (c ∷ s) t e = e

pub strip-at : (s t : List ℕ) → strip s (s ++ t) ≡ some t
unfolding strip pick
strip-at [] t = refl
strip-at (c ∷ s) t = rw (eq-eqb c c refl) (strip-at s t)
