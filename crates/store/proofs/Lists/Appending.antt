-- Lists that grow at the end, as the changes and the standing files do.
use mathlib.Core.Path.{◌≡◌, refl, sym, ◌∙◌}
use mathlib.Core.Bool.{Bool, ◌||◌, or_assoc, true}
use mathlib.Core.List.{List, [], ◌∷◌, ◌++◌, append-nil}
use Prim.Native.Nat.{ℕ, suc}
use native.Mathlib.Omega.{arith}
use lib.ListN.{length, length-append}
use lib.Seq.{append_snoc}
use Rattle.names.specs.Bytes.{any}
use Rattle.names.specs.Pick.{◌and◌}
use Rattle.names.proofs.Tests.{and_i}

module _ {A : Type 0} where
  grown_from : (P : List A → Type 0) → ((xs : List A) (x : A) → P xs → P (xs ++ x ∷ [])) → (ys xs : List A) → P xs → P (xs ++ ys)
  grown_from P more [] xs p = rw append-nil p
  grown_from P more (y ∷ ys) xs p = rw append_snoc at (grown_from P more ys (xs ++ y ∷ []) (more xs y p))

  -- What holds of the empty list, and with one more at the end where it held before, holds of every list.
  pub by_last : (P : List A → Type 0) → P [] → ((xs : List A) (x : A) → P xs → P (xs ++ x ∷ [])) → (xs : List A) → P xs
  by_last P none_yet more xs = grown_from P more xs [] none_yet

  pub length_more : (xs : List A) (x : A) → length (xs ++ x ∷ []) ≡ suc (length xs)
  length_more xs x = omega (arith, length-append xs (x ∷ []))

  -- A number that is told by a place, 0 or behind an element of a list: it is the size of what stands before the place.
  pub size-before : (told : ℕ → ℕ) (size : List A → ℕ) (whole : List A) → told 0 ≡ size []
      → ((xs ys : List A) (x : A) → whole ≡ xs ++ x ∷ ys → told (suc (length xs)) ≡ size (xs ++ x ∷ []))
      → (xs ys : List A) → whole ≡ xs ++ ys → told (length xs) ≡ size xs
  size-before told size whole none_yet behind =
      by_last (λ xs. (ys : List A) → whole ≡ xs ++ ys → told (length xs) ≡ size xs) (λ ys e. none_yet)
      (λ xs x _ ys e. rw (length_more xs x) (behind xs ys x (e ∙ append_snoc xs x ys)))

  -- Tests of the first places and the elements read from them: where each element of a list stands in its place and passes, so do the first of them.
  module _ (tests test : ℕ → Bool) (firsts : ℕ → List A) (read : ℕ → A) (whole : List A)
      (none-tested : tests 0 ≡ true) (test-next : (n : ℕ) → tests (suc n) ≡ (tests n and test n))
      (none_read : firsts 0 ≡ []) (read_next : (n : ℕ) → firsts (suc n) ≡ firsts n ++ read n ∷ [])
      (stands : (xs ys : List A) (x : A) → whole ≡ xs ++ x ∷ ys → firsts (length xs) ≡ xs → (test (length xs) ≡ true) × (read (length xs) ≡ x)) where
    pub first-placed : (xs ys : List A) → whole ≡ xs ++ ys → (tests (length xs) ≡ true) × (firsts (length xs) ≡ xs)
    first-placed =
        by_last (λ xs. (ys : List A) → whole ≡ xs ++ ys → (tests (length xs) ≡ true) × (firsts (length xs) ≡ xs)) (λ ys e. (none-tested, none_read))
        (λ xs x placed ys e.
        let here : whole ≡ xs ++ x ∷ ys = e ∙ append_snoc xs x ys in
        let before = placed (x ∷ ys) here in
        let this = stands xs ys x here before.1 in
        rw (length_more xs x, test-next (length xs), read_next (length xs)) (and_i (tests (length xs)) (test (length xs)) before.0 this.0, rw (before.1, this.1)))

  pub any_append : (p : A → Bool) (xs ys : List A) → any p (xs ++ ys) ≡ (any p xs || any p ys)
  unfolding any
  any_append p [] ys = refl
  any_append p (x ∷ xs) ys = rw (any_append p xs ys) (sym (or_assoc (p x) (any p xs) (any p ys)))
