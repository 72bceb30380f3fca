-- Texts as lists of byte values, and tests of all their bytes.
use Rattle.std.specs.Prelude.{List, [], ◌∷◌, Bool, true, false, ◌&&◌, ◌||◌, ℕ, leb}
use Prim.Native.Char.{Char, code}
use Prim.Native.String.{String, [] as []ˢ, ◌∷◌ as ◌∷ˢ◌}
use Rattle.names.specs.Pick.{◌and◌}

-- The bytes of a text of document 01, and one of them.
abbrev pub bytes : String → List ℕ
bytes []ˢ = []
bytes (c ∷ˢ s) = code c ∷ bytes s

abbrev pub ch : Char → ℕ
ch c = code c

-- From low to high, both included.
abbrev pub within : ℕ → ℕ → ℕ → Bool
within low high n = leb low n && leb n high

module _ {A : Type 0} where
  -- Every element passes the test.
  unfoldable pub all : (A → Bool) → List A → Bool
  all p [] = true
  all p (x ∷ xs) = p x and all p xs

  -- Some element passes the test.
  unfoldable pub any : (A → Bool) → List A → Bool
  any p [] = false
  any p (x ∷ xs) = p x || any p xs
