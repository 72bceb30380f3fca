-- What a tag says without a store: 4, 5, 6, 16, 7 and 10, and the events that the store is told of.
use Rattle.std.specs.Prelude.{Bool, true, false, not, ◌||◌, List, [], ◌∷◌, ℕ, zero, suc, length}
use Rattle.std.proofs.Math.Option.{Option, none, some}
use Rattle.names.specs.Bytes.{bytes}
use Rattle.names.specs.Order.{same}
use Rattle.names.specs.Pick.{pick}
use Rattle.store.specs.Answer.{Answer, refused, accepted, ◌>>◌, unless}
use Rattle.store.specs.Word.{Word, insert, update, upsert, remove, context, word_text}
use Rattle.reader.specs.Tag.{Attr, Tag, opens, closes, content}
use Rattle.reader.specs.Element.{Form, element_at, sort_behind, body_fits, get, well_placed}

-- What the store is told of, in the order of the file.
pub data Event : Type 0 where
  -- ClinicalData opens.
  study : List Attr → Event
  -- The word of an entity is to be done: the number of its element, its attributes, its body, which only a typed item has, and its word after inheritance.
  entity : ℕ → List Attr → List ℕ → Word → Event
  -- The innermost open element closes.
  leaves : Event

-- Where a tag stands: the words of the open elements below ODM, the innermost first, and whether the items so far are typed, where there were any.
pub record Place : Type 0 where
  pub words : List (Option Word)
  pub items : Option Bool

abbrev pub place : List (Option Word) → Option Bool → Place
place ws items = record { words = ws; items = items }

-- What a tag says, with what belongs to it: events; then the file goes on, the next tag at a place, or ODM is closed, or a fault stops it.
pub data Telling : Type 0 where
  fault : ℕ → Telling
  event : Event → Telling → Telling
  goes : Place → List ℕ → Telling
  finishes : List ℕ → Telling

infixl 10 ◌▸◌
unfoldable pub ◌▸◌ : {A : Type 0} → Answer A → (A → Telling) → Telling
refused n ▸ k = fault n
accepted a ▸ k = k a

-- The word that a text writes.
unfoldable pub word_of : List ℕ → Word
word_of v =
    pick (same v (word_text insert)) insert
    (pick (same v (word_text update)) update
    (pick (same v (word_text upsert)) upsert
    (pick (same v (word_text remove)) remove
    context)))

unfoldable pub given : Option (List ℕ) → Option Word
given none = none
given (some v) = some (word_of v)

unfoldable pub is_insert : Word → Bool
is_insert insert = true
is_insert update = false
is_insert upsert = false
is_insert remove = false
is_insert context = false

unfoldable pub is_remove : Word → Bool
is_remove insert = false
is_remove update = false
is_remove upsert = false
is_remove remove = true
is_remove context = false

-- The word of an element, by whether the file is a Snapshot, its parent's word and its own: "10 word missing on a Transactional SubjectData,
-- not Remove under Remove, not Insert in a Snapshot".
unfoldable pub word_here : Bool → Option Word → Option Word → Answer Word
-- "A Snapshot file allows only Insert, and an absent word there means Insert."
word_here true outer none = accepted insert
word_here true outer (some w) = unless (is_insert w) 10 >> accepted w
-- "An absent word is the parent's."
word_here false none none = refused 10
word_here false none (some w) = accepted w
word_here false (some o) none = accepted o
-- "Under Remove each child's word must be Remove."
word_here false (some o) (some w) = unless (not (is_remove o) || is_remove w) 10 >> accepted w

unfoldable pub innermost : List (Option Word) → Option Word
innermost [] = none
innermost (w ∷ ws) = w

-- The word of an element at a place: 10.
unfoldable pub word_in : Bool → Place → List Attr → Answer Word
word_in snapshot x as' = word_here snapshot (innermost x.words) (given (get (bytes "TransactionType") as'))

-- One more element is open, and the next tag stands in it; a self-closing one closes with the same tag.
unfoldable pub opening : Bool → Option Word → Place → List ℕ → Telling
opening false w x s = goes (place (w ∷ x.words) x.items) s
opening true w x s = event leaves (goes x s)

-- The place behind an element's tag, by its number.
abbrev pub place_behind : ℕ → Place → Place
place_behind e x = place x.words (sort_behind e x.items)

-- By the number of open elements below ODM: ClinicalData, or an entity's element.
unfoldable pub tell_below : Bool → Place → ℕ → ℕ → List Attr → Bool → List ℕ → Telling
tell_below b x zero e as' self s = event (study as') (opening self none x s)
tell_below b x (suc d) e as' self s = word_in b x as' ▸ λ w. event (entity e as' [] w) (opening self (some w) (place_behind e x) s)

-- A typed item behind its word, by the form of its body: "The item's body, its 11 to 13 and its change are judged at its closing tag." Nothing else can stand
-- between its tags, so body and closing tag are read with the opening tag, and the item is never among the open elements.
unfoldable pub tell_body : Form → Place → ℕ → List ℕ → List Attr → Bool → Word → List ℕ → Telling
tell_body f x e n as' self w s =
    content self n s ▸ λ c.
    unless (body_fits f c.got) 7 ▸ λ _.
    event (entity e as' c.got w) (opening true (some w) (place_behind e x) c.rest)

unfoldable pub tell_as : Option Form → Bool → Place → ℕ → List ℕ → List Attr → Bool → List ℕ → Telling
tell_as none b x e n as' self s = tell_below b x (length x.words) e as' self s
tell_as (some f) b x e n as' self s = word_in b x as' ▸ λ w. tell_body f x e n as' self w s

-- "wrong .. closing tag" is 4.
unfoldable pub tell_closing : Place → List (Option Word) → List ℕ → List ℕ → Telling
tell_closing x [] n s = unless (same n (element_at 0).name) 4 ▸ λ _. finishes s
tell_closing x (w ∷ ws) n s = unless (same n (element_at (length (w ∷ ws))).name) 4 ▸ λ _. event leaves (goes (place ws x.items) s)

-- A tag at a place, with the bytes behind it; whether the file is a Snapshot.
unfoldable pub tell : Bool → Place → Tag → List ℕ → Telling
tell b x (opens n as' self) s = well_placed x.items (suc (length x.words)) n as' ▸ λ e. tell_as (element_at e).body b x e n as' self s
tell b x (closes n) s = tell_closing x x.words n s
