-- Example (a) of document 01: "key 7/SCR/VS/BP/SYS with value 120, repeat keys absent, takes 22 bytes."
use mathlib.Core.Path.{◌≡◌, refl}
use mathlib.Core.Bool.{true}
use mathlib.Core.List.{[], ◌∷◌}
use lib.ListN.{length}
use Rattle.names.specs.Bytes.{bytes, all}
use Rattle.names.specs.Class.{is_letter, is_digit, is_name_mark, is_name_byte, is_value_byte}
use Rattle.names.specs.Key.{depth_of, names_used, is_repeat, are_levels, is_key, packed}
use Rattle.names.specs.Name.{is_name_of, is_name, is_text_of, is_value}
use Rattle.names.specs.Pick.{pick, ◌and◌}
use Rattle.store.specs.Change.{make, Change, change, is_item, is_null, value_fits, is_change, change_bytes}

unfoldable pub systolic : Change
systolic = change make (bytes "7" ∷ bytes "SCR" ∷ [] ∷ bytes "VS" ∷ [] ∷ bytes "BP" ∷ [] ∷ bytes "SYS" ∷ []) (bytes "120")

pub systolic-takes_22 : length (change_bytes systolic) ≡ 22
unfolding systolic change_bytes packed
systolic-takes_22 = refl

pub systolic-is-change : is_change systolic ≡ true
unfolding systolic is_change is_key is_name is_name_of is_name_byte is_letter is_digit is_name_mark are_levels is_repeat all names_used depth_of is_value is_text_of is_value_byte value_fits is_item is_null pick ◌and◌
systolic-is-change = refl
