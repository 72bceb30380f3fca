-- Names, long names and values.
use Rattle.std.specs.Prelude.{Bool, List, ℕ, leb, length}
use Rattle.names.specs.Bytes.{all}
use Rattle.names.specs.Class.{is_name_byte, is_value_byte}
use Rattle.names.specs.Pick.{◌and◌}

-- The longest name, long name and value.
abbrev pub name_most : ℕ
name_most = 16

abbrev pub long_name_most : ℕ
long_name_most = 64

abbrev pub value_most : ℕ
value_most = 40

-- 1 to `most` name bytes.
unfoldable pub is_name_of : ℕ → List ℕ → Bool
is_name_of most s = leb 1 (length s) and leb (length s) most and all is_name_byte s

-- "A name is 1 to 16 bytes out of A-Z, a-z, 0-9, `.` `_` `-` `/`."
unfoldable pub is_name : List ℕ → Bool
is_name s = is_name_of name_most s

-- "A long name is 1 to 64 of them."
unfoldable pub is_long_name : List ℕ → Bool
is_long_name s = is_name_of long_name_most s

-- 0 to `most` bytes from 32 to 126.
unfoldable pub is_text_of : ℕ → List ℕ → Bool
is_text_of most s = leb (length s) most and all is_value_byte s

-- "A value is 0 to 40 bytes from 32 to 126; length 0 is null."
unfoldable pub is_value : List ℕ → Bool
is_value s = is_text_of value_most s
