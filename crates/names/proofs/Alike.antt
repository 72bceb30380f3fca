-- A loop that compares two lists place by place: the laws of `alike` at an index. Its invariant is `alike r a b ≡ alike r (drop i a) (drop i b)`.
use mathlib.Core.Path.{◌≡◌, refl, sym, ap, ◌∙◌}
use mathlib.Core.Bool.{Bool, true, false, ◌&&◌, false≢true}
use mathlib.Core.List.{List, [], ◌∷◌}
use Prim.Native.Nat.{ℕ, suc, ◌+◌, ◌≤◌, ◌<◌}
use lib.ListN.{length, get_or, drop}
use lib.Dec.{eqb}
use native.Mathlib.Omega.{arith}
use borrow.Author.Tests.{ne_eqb}
use Rattle.std.specs.List.{list_all, zip}
use Rattle.names.specs.Order.{alike}
use Rattle.names.specs.Pick.{◌and◌}
use Rattle.names.proofs.Tests.{and_r, not_then}
use Rattle.names.proofs.Walk.{drop_here, drop_past}

pub alike-length : {A : Type 0} (r : A → A → Bool) (a b : List A) → alike r a b ≡ true → length a ≡ length b
unfolding alike
alike-length r [] [] e = refl
alike-length r [] (y ∷ ys) e = absurd (false≢true e)
alike-length r (x ∷ xs) [] e = absurd (false≢true e)
alike-length r (x ∷ xs) (y ∷ ys) e = ap suc (alike-length r xs ys (and_r (r x y) (alike r xs ys) e))

module _ (r : ℕ → ℕ → Bool) (a b : List ℕ) (i : ℕ) (inv : alike r a b ≡ alike r (drop i a) (drop i b)) where
  -- Both lists are at their end.
  pub alike_end : length a ≤ i → length b ≤ i → true ≡ alike r a b
  unfolding alike
  alike_end h k = sym (inv ∙ rw (drop_past a i h, drop_past b i k))

  -- The elements at i; t is the answer that the code had for them.
  pub alike_stop : (t : Bool) → t ≡ r (get_or a i 0) (get_or b i 0) → t ≡ false → i < length a → i < length b → false ≡ alike r a b
  unfolding alike ◌and◌
  alike_stop t e f h k = sym (inv ∙ rw (drop_here a i h, drop_here b i k, ← e, f))

  pub alike-on : (t : Bool) → t ≡ r (get_or a i 0) (get_or b i 0) → t ≡ true → i < length a → i < length b
      → alike r a b ≡ alike r (drop (i + 1) a) (drop (i + 1) b)
  unfolding alike ◌and◌
  alike-on t e f h k = inv ∙ rw (drop_here a i h, drop_here b i k, ← e, f)

-- By the library's words, as a chain of two iterators answers.
zipped : (r : ℕ → ℕ → Bool) (a b : List ℕ) → length a ≡ length b → list_all (λ (q : ℕ × ℕ). r q.0 q.1) (zip a b) ≡ alike r a b
unfolding alike ◌and◌
zipped r [] [] h = refl
zipped r [] (y ∷ b) h = absurd (omega arith)
zipped r (x ∷ a) [] h = absurd (omega arith)
zipped r (x ∷ a) (y ∷ b) h = go (r x y) (zipped r a b (omega arith))
  where
    go : (t : Bool) → list_all (λ (q : ℕ × ℕ). r q.0 q.1) (zip a b) ≡ alike r a b → (t && list_all (λ (q : ℕ × ℕ). r q.0 q.1) (zip a b)) ≡ (t and alike r a b)
    go true e = e
    go false e = refl

pub alike_zipped : (r : ℕ → ℕ → Bool) (a b : List ℕ) (t : Bool) → length a ≡ length b → t ≡ list_all (λ (q : ℕ × ℕ). r q.0 q.1) (zip a b) → t ≡ alike r a b
alike_zipped r a b t h e = e ∙ zipped r a b h

pub alike-other : (r : ℕ → ℕ → Bool) (a b : List ℕ) → (length a ≡ length b → ⊥) → eqb (length a) (length b) ≡ alike r a b
alike-other r a b n = ne_eqb (length a) (length b) n ∙ sym (not_then (alike r a b) (λ e. n (alike-length r a b e)))
