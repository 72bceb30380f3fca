-- Dates: the size and the bytes, and which is not later than another.
use mathlib.Core.Path.{◌≡◌, refl, sym, ◌∙◌, ap}
use mathlib.Core.List.{List, [], ◌∷◌}
use mathlib.Core.Bool.{Bool, true, false, not, ◌||◌, false≢true}
use Prim.Native.Nat.{ℕ, ◌≤◌}
use native.Mathlib.Omega.{arith}
use lib.Dec.{eqb}
use lib.ListN.{length, take}
use borrow.Author.Tests.{ne_eqb, le-leb, lt-leb, eqb-true, not-true}
use Rattle.names.specs.Bytes.{all, ch}
use Rattle.names.specs.Class.{is_digit, is_markup, is_name_byte, is_value_byte}
use Rattle.names.specs.Date.{date_size, day_size, two_digits, fits_byte, picture, is_time, is_date, is_day_text, not_later}
use Rattle.names.specs.Order.{not_after, alike, bytes_order}
use Rattle.names.specs.Pick.{pick, ◌and◌}
use Rattle.std.specs.declared.cmp.Ordering.{Ordering}
use Rattle.std.specs.declared.cmp.Ordering.TheVariants.{Less, Equal, Greater}
use Rattle.std.specs.Ordering.{is_le}
use Rattle.names.proofs.Alike.{alike-length}
use Rattle.names.proofs.ClassLaws.{byte-rules, digit_name, of_bytes}
use Rattle.names.proofs.Ordered.{name-order}
use Rattle.names.proofs.Tests.{and_l, and_r, and_i}

-- A text of a picture's form is as long as the picture.
pub pictured-length : (p s : List ℕ) → true ≡ alike fits_byte p s → length s ≡ length p
pictured-length p s e = sym (alike-length fits_byte p s (sym e))

-- A date has its 19 bytes.
pub date-length : (s : List ℕ) → is_date s ≡ true → length s ≡ date_size
unfolding is_date picture
date-length s e = sym (alike-length fits_byte picture s (and_l (alike fits_byte picture s) _ e))

pub date-most : (s : List ℕ) → is_date s ≡ true → length s ≤ date_size
date-most s e = let l = date-length s e in omega arith

-- A byte that may stand in a date.
abbrev is_date_mark : ℕ → Bool
is_date_mark c = eqb c (ch "-") || eqb c (ch ":") || eqb c (ch "T")

unfoldable pub is_date_byte : ℕ → Bool
is_date_byte c = is_digit c || is_date_mark c

-- What digits pass, and the other bytes of a picture, all bytes of a text of its form pass.
module _ (q : ℕ → Bool) (digits : (c : ℕ) → is_digit c ≡ true → q c ≡ true) where
  fits_in : (p c : ℕ) → pick (eqb p (ch "d")) true (q p) ≡ true → fits_byte p c ≡ true → q c ≡ true
  unfolding fits_byte pick
  fits_in p c v e = go (eqb p (ch "d")) v e
    where
      go : (b : Bool) → pick b true (q p) ≡ true → pick b (is_digit c) (eqb p c) ≡ true → q c ≡ true
      go true v e = digits c e
      go false v e = rw (← eqb-true p c e) v

  alike_in : (ps s : List ℕ) → all (λ p. pick (eqb p (ch "d")) true (q p)) ps ≡ true → alike fits_byte ps s ≡ true → all q s ≡ true
  unfolding all alike
  alike_in [] [] v e = refl
  alike_in [] (c ∷ s) v e = absurd (false≢true e)
  alike_in (p ∷ ps) [] v e = absurd (false≢true e)
  alike_in (p ∷ ps) (c ∷ s) v e = and_i _ _ (fits_in p c (and_l _ _ v) (and_l _ _ e)) (alike_in ps s (and_r _ _ v) (and_r (fits_byte p c) _ e))

digit_date : (c : ℕ) → is_digit c ≡ true → is_date_byte c ≡ true
unfolding is_date_byte
digit_date c e = rw e

pub date-bytes : (s : List ℕ) → is_date s ≡ true → all is_date_byte s ≡ true
unfolding is_date
date-bytes s e = alike_in is_date_byte digit_date picture s (unfold picture is_date_byte is_digit all pick ◌and◌ in refl) (and_l (alike fits_byte picture s) _ e)

pub day-bytes : (s : List ℕ) → is_day_text s ≡ true → all is_name_byte s ≡ true
unfolding is_day_text
day-bytes s e =
    alike_in is_name_byte digit_name (take day_size picture) s (unfold picture byte-rules all in refl) (and_l (alike fits_byte (take day_size picture) s) _ e)

date_past : (c : ℕ) → 256 ≤ c → is_date_byte c ≡ false
unfolding is_date_byte is_digit
date_past c h =
    rw (
      le-leb 48 c (omega arith),
      lt-leb c 57 (omega arith),
      ne_eqb c 45 (λ q. omega arith),
      ne_eqb c 58 (λ q. omega arith),
      ne_eqb c 84 (λ q. omega arith),
    )

pub date-value : (c : ℕ) → is_date_byte c ≡ true → is_value_byte c ≡ true
unfolding byte-rules is_date_byte
date-value = of_bytes is_date_byte is_value_byte date_past refl

pub date_not_markup : (c : ℕ) → is_date_byte c ≡ true → is_markup c ≡ false
unfolding byte-rules is_date_byte
date_not_markup c e = not-true (is_markup c) (of_bytes is_date_byte (λ c. not (is_markup c)) date_past refl c e)

pub not_later-self : (d : List ℕ) → not_later d d ≡ true
unfolding not_later
not_later-self d = rw (name-order.alike d)

-- What `is_le` says of the order of two dates.
pub told_not_later : (a b : List ℕ) (o : Ordering) → o ≡ bytes_order a b → is_le o ≡ not_later a b
unfolding not_later
told_not_later a b o e = ap is_le e ∙ le_not_after (bytes_order a b)
  where
    le_not_after : (o : Ordering) → is_le o ≡ not_after o
    le_not_after Less = refl
    le_not_after Equal = refl
    le_not_after Greater = refl

-- The numbers of a time.
pub time_told : (s : List ℕ) {x y z : ℕ} {r : Bool} → x ≡ two_digits s 11 → y ≡ two_digits s 14 → z ≡ two_digits s 17 → r ≡ is_time x y z
    → r ≡ is_time (two_digits s 11) (two_digits s 14) (two_digits s 17)
time_told s a b e g = rw (← a, ← b, ← e) g
