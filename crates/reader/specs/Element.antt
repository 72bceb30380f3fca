-- The element table of document 01, and the typed items of order 1 of document 02.
use Rattle.std.specs.Prelude.{Bool, true, false, not, ◌||◌, List, [], ◌∷◌, ℕ, suc, eqb, leb, ltb, get_or}
use Rattle.std.proofs.Math.Option.{Option, none, some}
use Rattle.names.specs.Bytes.{bytes, all, any}
use Rattle.names.specs.Date.{is_date, is_day_text}
use Rattle.names.specs.Name.{is_name, is_long_name, is_text_of, is_value}
use Rattle.names.specs.Number.{is_number}
use Rattle.names.specs.Order.{same}
use Rattle.names.specs.Pick.{pick, ◌and◌}
use Rattle.store.specs.Answer.{Answer, accepted, ◌>>=◌, ◌>>◌, unless, present}
use Rattle.store.specs.Change.{is_null}
use Rattle.store.specs.Word.{Word, insert, update, upsert, remove, context, word_text}
use Rattle.reader.specs.Tag.{Attr, has}

-- The forms of values.
pub data Form : Type 0 where
  namespace file_type long_name date version description name word value yes integer float day : Form

pub record Attribute : Type 0 where
  pub name : List ℕ
  pub required : Bool
  pub form : Form

abbrev must : List ℕ → Form → Attribute
must n f = record { name = n; required = true; form = f }

abbrev may : List ℕ → Form → Attribute
may n f = record { name = n; required = false; form = f }

-- An element: its attributes and, of a typed item, the form of its body.
pub record Element : Type 0 where
  pub name : List ℕ
  pub attributes : List Attribute
  pub body : Option Form

abbrev element : List ℕ → List Attribute → Element
element n as' = record { name = n; attributes = as'; body = none }

-- "The attributes are ItemOID and TransactionType."
abbrev typed_item : List ℕ → Form → Element
typed_item n f = record { name = n; attributes = must (bytes "ItemOID") name ∷ may (bytes "TransactionType") word ∷ []; body = some f }

-- The elements, the first seven each in the one before, the typed items beside ItemData; of an entity's, the first attribute is its key or OID, the second, at
-- depths 2 to 4, its repeat key. "An integer .."; "a float .."; "The datetime is document 01's date, and the date is the first ten bytes of one".
unfoldable pub elements : List Element
elements =
    element (bytes "ODM")
    (must (bytes "xmlns") namespace ∷ must (bytes "FileType") file_type ∷ must (bytes "FileOID") long_name ∷ must (bytes "CreationDateTime") date
    ∷ must (bytes "ODMVersion") version ∷ may (bytes "PriorFileOID") long_name ∷ may (bytes "AsOfDateTime") date ∷ may (bytes "Description") description ∷ [])
    ∷ element (bytes "ClinicalData") (must (bytes "StudyOID") long_name ∷ must (bytes "MetaDataVersionOID") long_name ∷ [])
    ∷ element (bytes "SubjectData") (must (bytes "SubjectKey") name ∷ may (bytes "TransactionType") word ∷ [])
    ∷ element (bytes "StudyEventData") (must (bytes "StudyEventOID") name ∷ may (bytes "StudyEventRepeatKey") name ∷ may (bytes "TransactionType") word ∷ [])
    ∷ element (bytes "FormData") (must (bytes "FormOID") name ∷ may (bytes "FormRepeatKey") name ∷ may (bytes "TransactionType") word ∷ [])
    ∷ element (bytes "ItemGroupData") (must (bytes "ItemGroupOID") name ∷ may (bytes "ItemGroupRepeatKey") name ∷ may (bytes "TransactionType") word ∷ [])
    ∷ element (bytes "ItemData") (must (bytes "ItemOID") name ∷ may (bytes "Value") value ∷ may (bytes "IsNull") yes ∷ may (bytes "TransactionType") word ∷ [])
    ∷ typed_item (bytes "ItemDataString") value
    ∷ typed_item (bytes "ItemDataInteger") integer
    ∷ typed_item (bytes "ItemDataFloat") float
    ∷ typed_item (bytes "ItemDataDate") day
    ∷ typed_item (bytes "ItemDataDatetime") date
    ∷ []

-- The element of a number, and the number of a name.
unfoldable pub element_at : ℕ → Element
element_at e = get_or elements e (element [] [])

unfoldable pub attribute_at : ℕ → ℕ → List ℕ
attribute_at e i = (get_or (element_at e).attributes i (may [] name)).name

unfoldable pub next : Option ℕ → Option ℕ
next none = none
next (some n) = some (suc n)

unfoldable pub element_in : List Element → List ℕ → Option ℕ
element_in [] n = none
element_in (e ∷ es) n = pick (same e.name n) (some 0) (next (element_in es n))

unfoldable pub element_of : List ℕ → Option ℕ
element_of n = element_in elements n

-- ItemData has number 6, the typed items more.
abbrev pub item : ℕ
item = 6

-- Where so many elements are open the one of that number may stand; where six are, an item of either sort.
unfoldable pub may_stand : ℕ → ℕ → Bool
may_stand level e = pick (eqb level item) (leb item e) (ltb level item and eqb e level)

-- "16, typed and untyped items in one file": by whether those so far are typed, where there were any.
unfoldable pub alike_items : Option Bool → Bool → Bool
alike_items none typed = true
alike_items (some true) typed = typed
alike_items (some false) typed = not typed

unfoldable pub one_sort : Option Bool → ℕ → Bool
one_sort items e = ltb e item || alike_items items (ltb item e)

-- The sort of a file's items behind an element.
unfoldable pub sort_behind : ℕ → Option Bool → Option Bool
sort_behind e items = pick (ltb e item) items (some (ltb item e))

-- "xmlns is `http://www.cdisc.org/ns/odm/v1.3`; ODMVersion `1.3.2`; FileType Snapshot or Transactional; Description 0 to 64 decoded bytes; FileOID,
-- PriorFileOID, StudyOID and MetaDataVersionOID long names; keys and other OIDs names; TransactionType one of the five words; IsNull only Yes"
unfoldable pub words : List Word
words = insert ∷ update ∷ upsert ∷ remove ∷ context ∷ []

unfoldable pub has_form : Form → List ℕ → Bool
has_form namespace v = same (bytes "http://www.cdisc.org/ns/odm/v1.3") v
has_form file_type v = same (bytes "Snapshot") v || same (bytes "Transactional") v
has_form long_name v = is_long_name v
has_form date v = is_date v
has_form version v = same (bytes "1.3.2") v
has_form description v = is_text_of 64 v
has_form name v = is_name v
has_form word v = any (λ w. same (word_text w) v) words
has_form value v = is_value v
has_form yes v = same (bytes "Yes") v
has_form integer v = is_number false v
has_form float v = is_number true v
has_form day v = is_day_text v

-- "An empty body .. is null"; "A body off its pattern or over 40 bytes is 7."
unfoldable pub body_fits : Form → List ℕ → Bool
body_fits f v = is_null v || (is_value v and has_form f v)

-- The value of an attribute, where it is there.
unfoldable pub get : List ℕ → List Attr → Option (List ℕ)
get n [] = none
get n (a ∷ as') = pick (same n a.name) (some a.value) (get n as')

unfoldable pub or_else : {A : Type 0} → A → Option A → A
or_else a none = a
or_else a (some b) = b

-- "6 attribute unknown or a required one missing"
unfoldable pub known : List Attribute → List Attr → Bool
known rows as' = all (λ a. any (λ r. same r.name a.name) rows) as'

unfoldable pub complete : List Attribute → List Attr → Bool
complete rows as' = all (λ r. not r.required || has r.name as') rows

-- "7 value not of its form"
unfoldable pub formed_by : Form → Option (List ℕ) → Bool
formed_by f none = true
formed_by f (some v) = has_form f v

unfoldable pub formed : List Attribute → List Attr → Bool
formed rows as' = all (λ r. formed_by r.form (get r.name as')) rows

-- "IsNull .. never beside Value (both is 7)"
unfoldable pub both : List Attr → Bool
both as' = has (bytes "Value") as' and has (bytes "IsNull") as'

-- The element of an opening tag where so many are open, by the sort of the items so far: 5, 6, 16, "judged after 6 and before 7", and 7.
unfoldable pub well_placed : Option Bool → ℕ → List ℕ → List Attr → Answer ℕ
well_placed items level n as' =
    present (element_of n) 5 >>= λ e.
    unless (may_stand level e) 5
    >> unless (known (element_at e).attributes as' and complete (element_at e).attributes as') 6
    >> unless (one_sort items e) 16
    >> unless (formed (element_at e).attributes as' and not (both as')) 7
    >> accepted e
