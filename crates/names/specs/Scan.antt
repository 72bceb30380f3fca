-- The longest run at the front of a text whose bytes pass a test, and what follows it.
use Rattle.std.specs.Prelude.{Bool, List, [], ◌∷◌, ℕ}
use Rattle.names.specs.Pick.{pick}

unfoldable pub front : (ℕ → Bool) → List ℕ → List ℕ
front p [] = []
front p (c ∷ s) = pick (p c) (c ∷ front p s) []

unfoldable pub after : (ℕ → Bool) → List ℕ → List ℕ
after p [] = []
after p (c ∷ s) = pick (p c) (after p s) (c ∷ s)
