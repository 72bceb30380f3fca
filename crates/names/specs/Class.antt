-- The class of a byte.
use Rattle.std.specs.Prelude.{Bool, ◌||◌, ℕ, eqb}
use Rattle.names.specs.Bytes.{ch, within}
use Rattle.names.specs.Pick.{pick}

-- "white space (9, 10, 13, 32)"
unfoldable pub is_white : ℕ → Bool
is_white b = eqb b 9 || eqb b 10 || eqb b 13 || eqb b 32

-- "A-Z, a-z"
unfoldable pub is_letter : ℕ → Bool
is_letter b = within (ch "A") (ch "Z") b || within (ch "a") (ch "z") b

-- "0-9"
unfoldable pub is_digit : ℕ → Bool
is_digit b = within (ch "0") (ch "9") b

-- "the four other name bytes": `.` `_` `-` `/`
unfoldable pub is_name_mark : ℕ → Bool
is_name_mark b = eqb b (ch ".") || eqb b (ch "_") || eqb b (ch "-") || eqb b (ch "/")

-- "one of `< > & " '`"
unfoldable pub is_markup : ℕ → Bool
is_markup b = eqb b (ch "<") || eqb b (ch ">") || eqb b (ch "&") || eqb b (ch "\"") || eqb b (ch "'")

-- "bytes out of A-Z, a-z, 0-9, `.` `_` `-` `/`"
unfoldable pub is_name_byte : ℕ → Bool
is_name_byte b = is_letter b || is_digit b || is_name_mark b

-- "bytes from 32 to 126"
unfoldable pub is_value_byte : ℕ → Bool
is_value_byte b = within 32 126 b

-- "0 never allowed, 1 white space (9, 10, 13, 32), 2 letter or digit, 3 the four other name bytes, 4 one of `< > & " '`, 5 any other of 33 to 126"
unfoldable pub class_of : ℕ → ℕ
class_of b =
    pick (is_white b) 1
    (pick (is_letter b || is_digit b) 2
    (pick (is_name_mark b) 3
    (pick (is_markup b) 4
    (pick (within 33 126 b) 5
    0))))
