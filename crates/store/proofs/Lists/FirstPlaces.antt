-- Tests of the first n places, one after another: `first n` asks `test` at each of them.
use mathlib.Core.Path.{◌≡◌, refl, sym, ap, subst, ◌∙◌}
use mathlib.Core.Bool.{Bool, true, false, ◌&&◌, and_comm}
use mathlib.Core.List.{List, [], ◌∷◌}
use Prim.Native.Nat.{ℕ, zero, suc, ◌+◌, ◌-◌, ◌≤◌, ◌<◌}
use native.Mathlib.Omega.{arith}
use lib.Dec.{eqb}
use lib.ListN.{length}
use borrow.Author.Tests.{eqb-true, eqb-false, ne_eqb}
use Rattle.std.specs.declared.iter.Rev.{Rev}
use Rattle.std.specs.declared.ops.Range.{Range}
use Rattle.std.specs.declared.option.Option.{Option}
use Rattle.std.specs.Iterator.Adapters.{rev_source, rev_steps}
use Rattle.std.specs.List.{list_all}
use Rattle.std.specs.Range.{range_steps_back}
use Rattle.std.proofs.lemmas.Iterator.{YieldsList}
use Rattle.std.proofs.lemmas.Iterator.Consumers.{YieldsList-from_shown}
use Rattle.names.specs.Pick.{◌and◌, pick}
use Rattle.names.proofs.Tests.{and_l, and_r}

module _ (first test : ℕ → Bool) (next : (n : ℕ) → first (suc n) ≡ (first n and test n)) where
  pub each_at : (n i : ℕ) → first n ≡ true → i < n → test i ≡ true
  each_at zero i e h = absurd (omega arith)
  each_at (suc n) i e h = go (eqb i n) refl (each_at n i (and_l (first n) (test n) both))
    where
      both : (first n and test n) ≡ true
      both = rw next at e

      go : (t : Bool) → eqb i n ≡ t → (i < n → test i ≡ true) → test i ≡ true
      go true q ih = rw (eqb-true i n q) (and_r (first n) (test n) both)
      go false q ih = let less : i < n = omega (arith, eqb-false i n q) in ih less

  pub each_first : (k n : ℕ) → k ≤ n → first n ≡ true → first k ≡ true
  each_first k n h e = let d : k + (n - k) ≡ n = omega arith in go (n - k) (rw d e)
    where
      go : (j : ℕ) → first (k + j) ≡ true → first k ≡ true
      go zero e = let z : k + 0 ≡ k = omega arith in rw z at e
      go (suc j) e = let z : k + suc j ≡ suc (k + j) = omega arith in go j (and_l (first (k + j)) (test (k + j)) (rw (z, next) at e))

-- What stands before a place, 0 at the first, and before the next place.
pub before-next : (told : ℕ → ℕ) (i : ℕ) → pick (eqb (suc i) 0) 0 (told (suc i - 1)) ≡ told i
unfolding pick
before-next told i = let d : suc i - 1 ≡ i = omega arith in rw (ne_eqb (suc i) 0 (λ q. omega arith), d)

-- A place behind the first, and the one before it.
pub from_before : (P : ℕ → ℕ → Type 0) → ((n : ℕ) → P (suc n) n) → (n : ℕ) → 0 < n → P n (n - 1)
from_before P next zero h = absurd (omega arith)
from_before P next (suc n) h = let w : suc n - 1 ≡ n = omega arith in rw w (next n)

-- So many places before one, the last first: what a range gives from its end on.
abbrev pub places_back : ℕ → ℕ → List ℕ
places_back e zero = []
places_back e (suc n) = (e - 1) ∷ places_back (e - 1) n

abbrev steps_back : Rev (Range ℕ) → Option ℕ → Rev (Range ℕ) → Type 0
steps_back = rev_steps (range_steps_back (λ a b. b - a) (λ a b. b ≡ a + 1))

abbrev range_left : Rev (Range ℕ) → List ℕ
range_left s = places_back (rev_source s).end ((rev_source s).end - (rev_source s).start)

one_back : (a b n m x : ℕ) → n ≡ suc m → x ≡ b → a ≡ b + 1 → places_back a n ≡ x ∷ places_back b m
one_back a b n m x e f g = let d : a - 1 ≡ b = omega arith in rw (e, d, f)

pub yields_back : {s : Rev (Range ℕ)} (a b n : ℕ) → rev_source s ≡ record { start = a; end = b } → b - a ≡ n → YieldsList steps_back (λ x. x) s (places_back b n)
yields_back {s} a b n e f =
    let same : range_left s ≡ places_back b n = ap (λ (r : Range ℕ). places_back r.end (r.end - r.start)) e ∙ ap (places_back b) f in
    subst (YieldsList steps_back (λ x. x) s) same
    (YieldsList-from_shown steps_back (λ x. x) range_left (λ u t p. ap (λ k. length (places_back (rev_source u).end k)) p.1.0)
    (λ u x t p. one_back _ _ _ _ x (omega (arith, p.0, p.1.0, p.1.2)) p.1.1 p.1.2) s)

-- What an iterator that goes back over the first places answers: `first n` joins the tests of n places.
and_same : (a b : Bool) → (a && b) ≡ (a and b)
unfolding ◌and◌
and_same true b = refl
and_same false b = refl

pub and_swap : (a b : Bool) → (a and b) ≡ (b and a)
and_swap a b = sym (and_same a b) ∙ and_comm a b ∙ and_same b a

pub all_back : (first test : ℕ → Bool) → first 0 ≡ true → ((n : ℕ) → first (suc n) ≡ (first n and test n)) → (n : ℕ) → list_all test (places_back n n) ≡ first n
all_back first test none_yet next zero = sym none_yet
all_back first test none_yet next (suc n) =
    let d : suc n - 1 ≡ n = omega arith in
    rw (d, all_back first test none_yet next n) (and_same (test n) (first n) ∙ and_swap (test n) (first n) ∙ sym (next n))
