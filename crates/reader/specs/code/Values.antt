-- The values of a tag's attributes: the stretches that hold them, and the forms in which no byte is written as an entity.
use Rattle.std.specs.Prelude.{◌≡◌, Bool, true, false, not, ◌||◌, List, [], ◌∷◌, map, ℕ, suc, ◌≤◌, ◌<◌, eqb, ltb, length, get_or}
use Rattle.std.proofs.Math.Option.{Option, none, some}
use Rattle.names.specs.Bytes.{bytes, ch}
use Rattle.names.specs.Class.{is_value_byte}
use Rattle.names.specs.Name.{is_text_of}
use Rattle.names.specs.Order.{same}
use Rattle.names.specs.Pick.{pick, ◌and◌}
use Rattle.names.specs.Text.{decode}
use Rattle.reader.specs.Element.{Form, namespace, file_type, long_name, date, version, description, name, word, value, yes, integer, float, day, Attribute, element_at, formed_by}
use Rattle.reader.specs.code.Places.{part, is_some}
use Rattle.reader.specs.declared.attributes.Found.{Found}

-- The texts that the forms of some numbers allow.
unfoldable pub literal_of : ℕ → List ℕ → Bool
literal_of k v =
    pick (eqb k 1) (same (bytes "http://www.cdisc.org/ns/odm/v1.3") v)
    (pick (eqb k 2) (same (bytes "Snapshot") v || same (bytes "Transactional") v) (pick (eqb k 5) (same (bytes "1.3.2") v) (same (bytes "Yes") v)))

-- The value of a stretch: its bytes decoded; a start of 0 says that it is absent.
unfoldable pub value_in : List ℕ → ℕ → ℕ → Option (List ℕ)
value_in s a e = pick (eqb a 0) none (decode (part s a e))

-- The stretch of an attribute's value as a whole tag has it: it can be decoded.
pub record ValueStretch (s : List ℕ) (a e : ℕ) : Type 0 where
  pub order : a ≤ e
  pub inside : e ≤ length s
  pub fine : (a ≡ 0 → ⊥) → is_some (decode (part s a e)) ≡ true

-- All of a tag's stretches, by the attributes' numbers.
pub record Stretches (s : List ℕ) (f : Found) : Type 0 where
  pub at : (j : ℕ) → j < 8 → ValueStretch s (get_or f.starts j 0) (get_or f.ends j 0)

-- A value that is at most so long, decoded; one that cannot be decoded is none.
unfoldable pub text_fits : ℕ → Option (List ℕ) → Bool
text_fits most none = false
text_fits most (some v) = is_text_of most v

-- A byte of a text that is written as it is.
unfoldable pub stands_alone : ℕ → Bool
stands_alone c = not (eqb c (ch "&")) and is_value_byte c

-- The forms of an element's attributes, and whether the values from the j-th on have the given forms.
unfoldable pub forms_of : ℕ → List Form
forms_of e = map (λ (a : Attribute). a.form) (element_at e).attributes

unfoldable pub formed_from : List Form → ℕ → List ℕ → Found → Bool
formed_from [] j s f = true
formed_from (x ∷ xs) j s f = formed_by x (value_in s (get_or f.starts j 0) (get_or f.ends j 0)) and formed_from xs (suc j) s f

-- Whether the attributes that an element requires are there: they are the first of its row.
abbrev pub is_there : List ℕ → ℕ → Bool
is_there starts j = not (eqb (get_or starts j 0) 0)

unfoldable pub required_there : ℕ → List ℕ → Bool
required_there e starts =
    is_there starts 0 and pick (ltb 1 e) true (is_there starts 1 and pick (eqb e 1) true (is_there starts 2 and is_there starts 3 and is_there starts 4))

-- Whether an item has both Value and IsNull.
unfoldable pub beside_null : ℕ → List ℕ → Bool
beside_null e starts = eqb e 6 and is_there starts 1 and is_there starts 2

-- A form that allows none of `< > & " '`: its values are written as they are.
unfoldable pub is_plain_form : Form → Bool
is_plain_form namespace = true
is_plain_form file_type = true
is_plain_form long_name = true
is_plain_form date = true
is_plain_form version = true
is_plain_form description = false
is_plain_form name = true
is_plain_form word = true
is_plain_form value = false
is_plain_form yes = true
is_plain_form integer = true
is_plain_form float = true
is_plain_form day = true

-- The row of an attribute in the table, and whether it is there and of such a form.
unfoldable pub row_at : ℕ → ℕ → Attribute
row_at e j = get_or (element_at e).attributes j record { name = []; required = false; form = name }

unfoldable pub plain_form : ℕ → ℕ → Bool
plain_form e j = ltb j (length (element_at e).attributes) and is_plain_form (row_at e j).form

-- Whether a tag has the name of its row's element, where so many elements are open.
unfoldable pub named_here : ℕ → ℕ → List ℕ → Bool
named_here level e n = not (eqb level 7) and same n (element_at e).name

-- Whether a file's items so far are typed, by the number that the code keeps: 0 says that there were none.
unfoldable pub sort_at : ℕ → Option Bool
sort_at n = pick (eqb n 0) none (some (not (eqb n 1)))
