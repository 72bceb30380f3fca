-- Texts that are of a form and texts that are not: the definitions computed at the edges of their rules.
use mathlib.Core.Path.{◌≡◌, refl}
use mathlib.Core.Bool.{Bool, true, false, not}
use mathlib.Core.List.{List, [], ◌∷◌}
use Prim.Native.String.{String}
use lib.ListN.{replicate}
use Rattle.names.specs.Bytes.{bytes, all}
use Rattle.names.specs.Class.{is_letter, is_digit, is_name_mark, is_name_byte, is_value_byte}
use Rattle.names.specs.Date.{is_date, is_day_text, is_day, is_time, days_in, is_leap, two_digits, fits_byte, picture}
use Rattle.names.specs.Name.{is_name, is_long_name, is_name_of, is_value, is_text_of}
use Rattle.names.specs.Number.{is_number, is_digits, is_fraction, without}
use Rattle.names.specs.Order.{alike}
use Rattle.names.specs.Pick.{pick, ◌and◌}
use Rattle.names.specs.Scan.{front, after}

abbrev is_integer : String → Bool
is_integer s = is_number false (bytes s)

abbrev is_float : String → Bool
is_float s = is_number true (bytes s)

-- Each of them is true.
pub forms : List Bool
forms =
    is_name (bytes "ABC.def_09-/XYZa") ∷
    not (is_name (bytes "ABC.def_09-/XYZab")) ∷
    not (is_name (bytes "")) ∷
    not (is_name (bytes "a b")) ∷
    is_long_name (replicate 64 65) ∷
    not (is_long_name (replicate 65 65)) ∷
    is_value (bytes "") ∷
    is_value (replicate 40 126) ∷
    not (is_value (replicate 41 126)) ∷
    is_value (bytes "<a & b>") ∷
    not (is_value (127 ∷ [])) ∷
    not (is_value (31 ∷ [])) ∷
    is_date (bytes "2012-02-29T09:00:00") ∷
    not (is_date (bytes "2014-02-29T09:00:00")) ∷
    not (is_date (bytes "1900-02-29T00:00:00")) ∷
    is_date (bytes "2000-02-29T23:59:59") ∷
    is_date (bytes "0001-01-01T00:00:00") ∷
    is_date (bytes "9999-12-31T23:59:59") ∷
    not (is_date (bytes "0000-01-01T00:00:00")) ∷
    not (is_date (bytes "2014-13-01T00:00:00")) ∷
    not (is_date (bytes "2014-00-01T00:00:00")) ∷
    not (is_date (bytes "2014-04-31T00:00:00")) ∷
    not (is_date (bytes "2014-04-00T00:00:00")) ∷
    not (is_date (bytes "2014-01-01T24:00:00")) ∷
    not (is_date (bytes "2014-01-01T00:60:00")) ∷
    not (is_date (bytes "2014-01-01T00:00:60")) ∷
    not (is_date (bytes "2014-01-01 00:00:00")) ∷
    not (is_date (bytes "2014-01-01T00:00:00Z")) ∷
    not (is_date (bytes "000d-01-01T00:00:00")) ∷
    is_day_text (bytes "2012-02-29") ∷
    not (is_day_text (bytes "2014-02-29")) ∷
    not (is_day_text (bytes "2012-02-29T")) ∷
    not (is_day_text (bytes "2012/02/29")) ∷
    not (is_day_text (bytes "dddd-dd-dd")) ∷
    not (is_day_text (bytes "2012-02-2")) ∷
    not (is_day_text (bytes "")) ∷
    is_integer "-0" ∷
    is_integer "007" ∷
    is_integer "5" ∷
    not (is_integer "+5") ∷
    not (is_integer "-") ∷
    not (is_integer "") ∷
    not (is_integer "1.5") ∷
    not (is_integer "--1") ∷
    not (is_integer " 5") ∷
    is_float "-1.50" ∷
    is_float "5" ∷
    not (is_float "1.") ∷
    not (is_float ".5") ∷
    not (is_float "1e3") ∷
    not (is_float "-") ∷
    not (is_float "") ∷
    not (is_float "1.2.3") ∷
    []

pub all_hold : all (λ t. t) forms ≡ true
unfolding forms all is_name is_long_name is_name_of is_value is_text_of is_name_byte is_letter is_digit is_name_mark is_value_byte is_date is_day_text is_day is_time days_in is_leap two_digits fits_byte picture is_number is_digits is_fraction without front after alike pick ◌and◌
all_hold = refl
