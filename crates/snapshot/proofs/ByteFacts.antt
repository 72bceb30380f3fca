-- What passing a test of a byte says of the byte.
use mathlib.Core.Path.{◌≡◌}
use mathlib.Core.Bool.{true}
use mathlib.Core.List.{List}
use Prim.Native.Nat.{ℕ, ◌≤◌}
use lib.Dec.{leb}
use lib.ListN.{length}
use borrow.Author.Tests.{leb-true}
use Rattle.names.specs.Bytes.{all}
use Rattle.names.specs.Class.{is_name_byte, is_value_byte}
use Rattle.names.specs.Date.{is_date}
use Rattle.names.specs.Name.{value_most, is_name_of, is_text_of, is_value}
use Rattle.names.specs.Text.{escape}
use Rattle.names.proofs.Tests.{and_l, and_r, all_implied}
use Rattle.names.proofs.ClassLaws.{name-value}
use Rattle.names.proofs.DateLaws.{is_date_byte, date-bytes, date-value}
use Rattle.names.proofs.Escape.{escape-name}

-- The parts of names, values and dates that a tag rests on.
module _ (most : ℕ) (n : List ℕ) (e : is_name_of most n ≡ true) where
  name-bytes : all is_name_byte n ≡ true
  unfolding is_name_of
  name-bytes = and_r (leb (length n) most) _ (and_r (leb 1 (length n)) _ e)

  pub name_printable : all is_value_byte n ≡ true
  name_printable = all_implied is_name_byte is_value_byte name-value n name-bytes

  pub name-size : length (escape n) ≤ most
  unfolding is_name_of
  name-size = rw (escape-name n name-bytes) (leb-true (length n) most (and_l _ _ (and_r (leb 1 (length n)) _ e)))

module _ (v : List ℕ) (e : is_value v ≡ true) where
  pub value_printable : all is_value_byte v ≡ true
  unfolding is_value is_text_of
  value_printable = and_r (leb (length v) value_most) _ e

  pub value-length : length v ≤ value_most
  unfolding is_value is_text_of
  value-length = leb-true (length v) value_most (and_l _ _ e)

pub date_printable : (d : List ℕ) → is_date d ≡ true → all is_value_byte d ≡ true
date_printable d e = all_implied is_date_byte is_value_byte date-value d (date-bytes d e)
