-- The class of a byte: a table's entries carried to the rule, tests of a byte as tests of its class, and what holds of every name byte.
use mathlib.Core.Path.{◌≡◌, refl, sym, ◌∙◌}
use mathlib.Core.Bool.{Bool, true, false, not, ◌||◌, false≢true}
use mathlib.Core.List.{List}
use Prim.Native.Nat.{ℕ, ◌≤◌, ◌<◌}
use native.Mathlib.Omega.{arith}
use lib.Dec.{eqb, leb, ltb}
use lib.ListN.{length, get_or}
use borrow.Author.Tests.{eqb-true, le-leb, lt-leb, leb-true, leb-false, ne_eqb, not-true}
use Rattle.names.specs.Class.{class_of, is_white, is_letter, is_digit, is_name_mark, is_markup, is_name_byte, is_value_byte}
use Rattle.names.specs.code.ByteClasses.{Classes}
use Rattle.names.specs.Name.{name_most}
use Rattle.names.specs.Pick.{pick, ◌and◌}
use Rattle.names.proofs.Computed.{every, at_entry}
use Rattle.names.proofs.Tests.{or_true, below, at-below, implies, implied}

-- Opens all that is computed at a byte.
unfoldable pub byte-rules : Unit {0}
unfolding class_of is_white is_letter is_digit is_name_mark is_markup is_name_byte is_value_byte pick ◌and◌
byte-rules = tt

-- The rule at one entry of a table.
unfoldable pub right : ℕ → ℕ → Bool
right b x = eqb x (class_of b)

-- A table that is right at every entry gives the class of each byte.
pub class_entry : (classes : List ℕ) → every right 0 classes ≡ true → (b : ℕ) → b < length classes → get_or classes b 0 ≡ class_of b
unfolding right
class_entry classes e b h = eqb-true (get_or classes b 0) (class_of b) (at_entry right classes e b h)

-- The same of the table as it is lent: each byte has an entry, its class.
pub in_table : {classes : List ℕ} → Classes classes → (b : ℕ) → b < 256 → b < length classes
in_table k b h = rw k.entries h

pub class_in : {classes : List ℕ} → Classes classes → (b : ℕ) → b < 256 → get_or classes b 0 ≡ class_of b
class_in k = k.rule

-- Two tests say the same.
abbrev pub agree : Bool → Bool → Bool
agree a b = implies a b and implies b a

pub agreed : (a b : Bool) → agree a b ≡ true → a ≡ b
unfolding ◌and◌
agreed true true e = refl
agreed true false e = sym e
agreed false true e = e
agreed false false e = refl

pub ruleset table_entries = (in_table, class_in)

-- Tests of a byte by its class.
pub white_class : (b : ℕ) → b < 256 → is_white b ≡ eqb (class_of b) 1
unfolding byte-rules
white_class b h = agreed (is_white b) (eqb (class_of b) 1) (at-below 256 (λ c. agree (is_white c) (eqb (class_of c) 1)) refl b h)

pub name_class : (b : ℕ) → b < 256 → is_name_byte b ≡ (eqb (class_of b) 2 || eqb (class_of b) 3)
unfolding byte-rules
name_class b h =
    agreed (is_name_byte b) (eqb (class_of b) 2 || eqb (class_of b) 3) (at-below 256 (λ c. agree (is_name_byte c) (eqb (class_of c) 2 || eqb (class_of c) 3)) refl b h)

-- Where no number past the bytes passes a test, what is computed of the bytes that pass it holds of all.
pub of_bytes : (p q : ℕ → Bool) → ((c : ℕ) → 256 ≤ c → p c ≡ false) → below 256 (λ c. implies (p c) (q c)) ≡ true → (c : ℕ) → p c ≡ true → q c ≡ true
of_bytes p q past t c e = implied (p c) (q c) (at-below 256 (λ c. implies (p c) (q c)) t c (go (leb 256 c) refl)) e
  where
    go : (t : Bool) → leb 256 c ≡ t → c < 256
    go true f = absurd (false≢true (sym (past c (leb-true 256 c f)) ∙ e))
    go false f = leb-false 256 c f

name_past : (c : ℕ) → 256 ≤ c → is_name_byte c ≡ false
unfolding is_name_byte is_letter is_digit is_name_mark
name_past c h =
    rw (
      le-leb 65 c (omega arith),
      lt-leb c 90 (omega arith),
      le-leb 97 c (omega arith),
      lt-leb c 122 (omega arith),
      le-leb 48 c (omega arith),
      lt-leb c 57 (omega arith),
      ne_eqb c 46 (λ q. omega arith),
      ne_eqb c 95 (λ q. omega arith),
      ne_eqb c 45 (λ q. omega arith),
      ne_eqb c 47 (λ q. omega arith),
    )

pub digit_name : (c : ℕ) → is_digit c ≡ true → is_name_byte c ≡ true
unfolding is_name_byte
digit_name c e = rw (e, or_true (is_letter c))

of_names : (q : ℕ → Bool) → below 256 (λ c. implies (is_name_byte c) (q c)) ≡ true → (c : ℕ) → is_name_byte c ≡ true → q c ≡ true
of_names q = of_bytes is_name_byte q name_past

pub name-value : (c : ℕ) → is_name_byte c ≡ true → is_value_byte c ≡ true
unfolding byte-rules
name-value = of_names is_value_byte refl

pub name_not_markup : (c : ℕ) → is_name_byte c ≡ true → is_markup c ≡ false
unfolding byte-rules
name_not_markup c e = not-true (is_markup c) (of_names (λ c. not (is_markup c)) refl c e)

-- A name byte is above every length of a name.
pub name_above : (c : ℕ) → is_name_byte c ≡ true → ltb name_most c ≡ true
unfolding byte-rules
name_above = of_names (ltb name_most) refl
