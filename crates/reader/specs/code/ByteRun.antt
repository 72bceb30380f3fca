-- Runs of bytes that the reader passes, and tests of their bytes.
use Rattle.std.specs.Prelude.{◌≡◌, Bool, true, not, List, ℕ, ◌-◌, ◌≤◌, eqb, length, take, drop}
use Rattle.names.specs.Bytes.{all, ch}
use Rattle.names.specs.Class.{is_white, is_markup, is_value_byte}
use Rattle.names.specs.Pick.{◌and◌}

-- So many bytes of a long run are taken at a time.
abbrev pub block : ℕ
block = 64

-- A byte that stands in a value as it is, in whichever quotes (a space does too, and is left to the longer way).
unfoldable pub is_bare : ℕ → Bool
is_bare b = is_value_byte b and not (is_white b) and not (is_markup b)

-- A byte of a written value that begins no entity, and so stands for itself.
unfoldable pub is_unescaped : ℕ → Bool
is_unescaped b = not (eqb b (ch "&"))

-- From `at` up to r all bytes of s pass p.
pub record Runs (p : ℕ → Bool) (s : List ℕ) (at r : ℕ) : Type 0 where
  pub each : all p (take (r - at) (drop at s)) ≡ true
  pub low : at ≤ r
  pub high : r ≤ length s

-- What a closure may answer of a byte, as its `post` says, is what the test p says of it.
abbrev pub Tests : (ℕ → Bool → Type 0) → (ℕ → Bool) → Type 0
Tests answers p = (b : ℕ) (r : Bool) → answers b r → r ≡ p b
