-- "A date is YYYY-MM-DDThh:mm:ss, Gregorian, years 0001 to 9999, hours to 23, minutes and seconds to 59".
use Rattle.std.specs.Prelude.{Bool, List, ℕ, ◌+◌, ◌-◌, ◌*◌, ◌%◌, eqb, leb, get_or, take}
use Rattle.names.specs.Bytes.{bytes, ch}
use Rattle.names.specs.Class.{is_digit}
use Rattle.names.specs.Order.{not_after, alike, bytes_order}
use Rattle.names.specs.Pick.{pick, ◌and◌}

abbrev pub date_size : ℕ
date_size = 19

abbrev pub day_size : ℕ
day_size = 10

-- The form of a date: `d` stands for a digit and not for itself, any other byte for itself.
unfoldable pub picture : List ℕ
picture = bytes "dddd-dd-ddTdd:dd:dd"

unfoldable pub fits_byte : ℕ → ℕ → Bool
fits_byte p c = pick (eqb p (ch "d")) (is_digit c) (eqb p c)

-- The number that the two digits at a place of the date write.
unfoldable pub two_digits : List ℕ → ℕ → ℕ
two_digits s at = 10 * (get_or s at 0 - ch "0") + (get_or s (at + 1) 0 - ch "0")

-- "Gregorian": every fourth year, of the centuries every fourth.
unfoldable pub is_leap : ℕ → Bool
is_leap y = pick (eqb (y % 100) 0) (eqb (y % 400) 0) (eqb (y % 4) 0)

unfoldable pub days_in : ℕ → ℕ → ℕ
days_in y m =
    pick (eqb m 2) (pick (is_leap y) 29 28)
    (pick (eqb m 4) 30
    (pick (eqb m 6) 30
    (pick (eqb m 9) 30
    (pick (eqb m 11) 30
    31))))

-- "years 0001 to 9999"
unfoldable pub is_day : ℕ → ℕ → ℕ → Bool
is_day y m d = leb 1 y and leb 1 m and leb m 12 and leb 1 d and leb d (days_in y m)

-- "hours to 23, minutes and seconds to 59"
unfoldable pub is_time : ℕ → ℕ → ℕ → Bool
is_time h m s = leb h 23 and leb m 59 and leb s 59

-- YYYY-MM-DD: the numbers stand at 0 and 2, 5 and 8.
abbrev pub shows_day : List ℕ → Bool
shows_day s = is_day (100 * two_digits s 0 + two_digits s 2) (two_digits s 5) (two_digits s 8)

-- YYYY-MM-DDThh:mm:ss: the numbers stand at 0 and 2, 5, 8, 11, 14 and 17.
unfoldable pub is_date : List ℕ → Bool
is_date s =
    alike fits_byte picture s
    and shows_day s
    and is_time (two_digits s 11) (two_digits s 14) (two_digits s 17)

-- "the date is the first ten bytes of one, with no zone": a day as a text.
unfoldable pub is_day_text : List ℕ → Bool
is_day_text s = alike fits_byte (take day_size picture) s and shows_day s

-- "dates compare as text"
unfoldable pub not_later : List ℕ → List ℕ → Bool
not_later a b = not_after (bytes_order a b)
