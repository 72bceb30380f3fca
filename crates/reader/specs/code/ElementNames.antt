-- The table of names that the code looks in: for each element a slot for its name and one for each of its attributes. Contracts of inner functions cite it.
use Rattle.std.specs.Prelude.{Option as Maybe, MatchOption}
use Rattle.std.specs.Prelude.{◌≡◌, Bool, false, List, [], ◌∷◌, ◌++◌, ℕ, zero, suc, ◌+◌, ◌*◌, ◌≤◌, ◌<◌, eqb, ltb, length, get_or, take, drop}
use Rattle.std.proofs.Math.Option.{Option, none, some}
use Rattle.names.specs.Bytes.{bytes, ch}
use Rattle.names.specs.Order.{same}
use Rattle.names.specs.Pick.{pick}
use Rattle.reader.specs.Tag.{strip}
use Rattle.reader.specs.Element.{Form, namespace, file_type, long_name, date, version, description, name, word, value, yes, integer, float, day, element_at, element_of, item}
use Rattle.reader.specs.code.AttributeNumbers.{row_of}
use Rattle.reader.specs.code.Values.{forms_of}

-- What mostly stands before the value of the first attribute of a row: a space, its name, `=` and a double quote.
unfoldable pub opener_in : List (List ℕ) → List ℕ
opener_in [] = []
opener_in (w ∷ ws) = ch " " ∷ (w ++ bytes "=\"")

-- The text of a slot of an element: its name, then those of its attributes.
unfoldable pub slot_text : ℕ → ℕ → List ℕ
slot_text e zero = (element_at e).name
slot_text e (suc j) = opener_in (drop j (row_of (element_at e)))

-- What follows it, where it stands; one without a text stands nowhere.
unfoldable pub after_slot : List ℕ → List ℕ → Option (List ℕ)
after_slot [] s = none
after_slot (c ∷ w) s = strip (c ∷ w) s

-- Whether n is the first name of a row.
unfoldable pub leads : List (List ℕ) → List ℕ → Bool
leads [] n = false
leads (w ∷ ws) n = same w n

-- The forms by their numbers, from 1 on; 0 says that there is no attribute, or no body.
unfoldable pub form_number : Form → ℕ
form_number namespace = 1
form_number file_type = 2
form_number long_name = 3
form_number date = 4
form_number version = 5
form_number description = 6
form_number name = 7
form_number word = 8
form_number value = 9
form_number yes = 10
form_number integer = 11
form_number float = 12
form_number day = 13

unfoldable pub form_numbered : ℕ → Form
form_numbered n =
    pick (eqb n 1) namespace
    (pick (eqb n 2) file_type
    (pick (eqb n 3) long_name
    (pick (eqb n 4) date
    (pick (eqb n 5) version
    (pick (eqb n 6) description
    (pick (eqb n 7) name
    (pick (eqb n 8) word
    (pick (eqb n 9) value
    (pick (eqb n 11) integer
    (pick (eqb n 12) float
    (pick (eqb n 13) day
    yes)))))))))))

unfoldable pub code_in : List Form → ℕ
code_in [] = 0
code_in (f ∷ fs) = form_number f

unfoldable pub body_code : Option Form → ℕ
body_code none = 0
body_code (some f) = form_number f

-- A slot of 24 bytes from p on: the length of its text, the text, and last the number of a form.
pub record Slot (names : List ℕ) (p : ℕ) (w : List ℕ) (code : ℕ) : Type 0 where
  pub size : get_or names p 0 ≡ length w
  pub few : length w ≤ 22
  pub text : take (length w) (drop (p + 1) names) ≡ w
  pub form : get_or names (p + 23) 0 ≡ code

-- The form of a slot: that of the attribute, and behind an element's name that of its body.
unfoldable pub slot_code : ℕ → ℕ → ℕ
slot_code e zero = body_code (element_at e).body
slot_code e (suc j) = code_in (drop j (forms_of e))

-- The number n of a form as the code answers it: none where it is 0.
abbrev pub FormOf : ℕ → Maybe ℕ → Type 0
FormOf n r = MatchOption r (n ≡ 0) (λ f. (f ≡ n) × (f ≡ 0 → ⊥))

-- Nine slots for each of the twelve elements.
pub record Names (names : List ℕ) : Type 0 where
  pub entries : length names ≡ 2592
  pub slot : (e i : ℕ) → e < 12 → i < 9 → Slot names (24 * (9 * e + i)) (slot_text e i) (slot_code e i)

-- The row by which the attributes of an opening tag are looked up where so many elements are open: the level's own. Where items stand it is that of the typed item
-- that the tag names, and ItemData's for every other name.
unfoldable pub item_in : Option ℕ → ℕ
item_in none = item
item_in (some e) = pick (ltb item e) e item

unfoldable pub row_here : ℕ → List ℕ → ℕ
row_here level n = pick (eqb level item) (item_in (element_of n)) level
