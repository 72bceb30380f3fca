-- A loop that tests each byte of a list: the laws of `all` at an index. Its invariant is `all p s ≡ all p (drop i s)`.
use mathlib.Core.Path.{◌≡◌, refl, sym, ◌∙◌}
use mathlib.Core.Bool.{Bool, true, false, ◌&&◌}
use mathlib.Core.List.{List, [], ◌∷◌}
use Prim.Native.Nat.{ℕ, ◌+◌, ◌≤◌, ◌<◌}
use lib.ListN.{length, get_or, drop}
use Rattle.std.specs.List.{list_all}
use Rattle.names.specs.Bytes.{all}
use Rattle.names.specs.Pick.{◌and◌}
use Rattle.names.proofs.Walk.{drop_here, drop_past}

-- t is the answer that the code had for the byte at i.
module _ (p : ℕ → Bool) (s : List ℕ) (i : ℕ) (inv : all p s ≡ all p (drop i s)) where
  pub all_stop : (t : Bool) → t ≡ p (get_or s i 0) → t ≡ false → i < length s → false ≡ all p s
  unfolding all ◌and◌
  all_stop t e f h = sym (inv ∙ rw (drop_here s i h, ← e, f))

  pub all-on : (t : Bool) → t ≡ p (get_or s i 0) → t ≡ true → i < length s → all p s ≡ all p (drop (i + 1) s)
  unfolding all ◌and◌
  all-on t e f h = inv ∙ rw (drop_here s i h, ← e, f)

  pub all_end : length s ≤ i → true ≡ all p s
  unfolding all
  all_end h = sym (inv ∙ rw (drop_past s i h))

-- The library's word for it, which a chain of an iterator answers.
all_listed : (p : ℕ → Bool) (s : List ℕ) → list_all p s ≡ all p s
unfolding all ◌and◌
all_listed p [] = refl
all_listed p (x ∷ s) = go (p x) (all_listed p s)
  where
    go : (b : Bool) → list_all p s ≡ all p s → (b && list_all p s) ≡ (b and all p s)
    go true e = e
    go false e = refl

pub all_told : (p : ℕ → Bool) (s : List ℕ) (r : Bool) → r ≡ list_all p s → r ≡ all p s
all_told p s r e = e ∙ all_listed p s

pub ruleset all-loop = (all_stop, all-on, all_end)
