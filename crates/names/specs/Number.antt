-- Numbers as texts: "An integer is one or more digits, perhaps after `-`; a float may add `.` and one or more digits."
use Rattle.std.specs.Prelude.{Bool, true, false, List, [], ◌∷◌, ℕ, eqb, leb, length}
use Rattle.names.specs.Bytes.{ch, all}
use Rattle.names.specs.Class.{is_digit}
use Rattle.names.specs.Pick.{pick, ◌and◌}
use Rattle.names.specs.Scan.{front, after}

-- "one or more digits"
unfoldable pub is_digits : List ℕ → Bool
is_digits s = leb 1 (length s) and all is_digit s

-- "perhaps after `-`": what follows a byte, where it is the first.
unfoldable pub without : ℕ → List ℕ → List ℕ
without b [] = []
without b (c ∷ s) = pick (eqb b c) s (c ∷ s)

-- "may add `.` and one or more digits": they or nothing.
unfoldable pub is_fraction : List ℕ → Bool
is_fraction [] = true
is_fraction (c ∷ s) = eqb c (ch ".") and is_digits s

-- A float, if the first argument says so, or an integer.
unfoldable pub is_number : Bool → List ℕ → Bool
is_number true s = is_digits (front is_digit (without (ch "-") s)) and is_fraction (after is_digit (without (ch "-") s))
is_number false s = is_digits (without (ch "-") s)
