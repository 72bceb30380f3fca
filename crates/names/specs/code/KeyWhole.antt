-- A key whose packed names stand whole in a text, so that others are compared with it by the place where the bytes first differ.
use Rattle.std.specs.Prelude.{◌≡◌, Bool, true, List, ℕ, ◌+◌, ◌≤◌, leb, ltb, length, take, drop}
use Rattle.names.specs.Bytes.{all}
use Rattle.names.specs.Name.{name_most}
use Rattle.names.specs.Pick.{◌and◌}
use Rattle.names.specs.Key.{Name, names_in, packed}
use Rattle.names.specs.code.KeyParts.{past_names}

-- Its bytes stand above every length.
unfoldable pub is_plain_name : Name → Bool
is_plain_name n = leb (length n) name_most and all (ltb name_most) n

-- A text is n packed names, each of them whole and plain.
pub record IsWhole (y : List ℕ) (n : ℕ) : Type 0 where
  pub whole : y ≡ packed (names_in n y)
  pub plain : all is_plain_name (names_in n y) ≡ true

-- n packed names at p in s take `size` bytes, each of them whole and plain.
pub record WholeKey (s : List ℕ) (p n size : ℕ) : Type 0 where
  pub room : p + size ≤ length s
  pub whole : take size (drop p s) ≡ packed (names_in n (drop p s))
  pub plain : all is_plain_name (names_in n (drop p s)) ≡ true

-- The first n packed names at p in s take r bytes, as far as the text goes.
pub record NamesTake (s : List ℕ) (p n r : ℕ) : Type 0 where
  pub room : p + r ≤ length s
  pub rest : past_names n (drop p s) ≡ drop (p + r) s
