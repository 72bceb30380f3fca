-- What a tag says, as the code holds it: the number of the element's word, and where the file goes on.
use Rattle.std.specs.Prelude.{◌≡◌, Bool, true, List, [], ◌∷◌, ℕ, zero, suc, ◌+◌, ◌≤◌, ◌<◌, eqb, length, drop, get_or, Option as Optional, Some, None, Result, Ok, Err}
use Rattle.std.proofs.Math.Option.{Option, some}
use Rattle.names.specs.Pick.{pick}
use Rattle.store.specs.Answer.{Answer, ◌>>=◌}
use Rattle.store.specs.Change.{Change}
use Rattle.store.specs.code.Deciding.{word_numbered}
use Rattle.store.specs.Machine.{Machine}
use Rattle.store.specs.Word.{Word}
use Rattle.store.specs.declared.answer.Refusal.{Refusal}
use Rattle.reader.specs.Tag.{Attr}
use Rattle.reader.specs.Element.{element_at, element_of, may_stand, well_placed}
use Rattle.reader.specs.code.Placed.{Placed, Bodied}
use Rattle.reader.specs.Tell.{Event, study, entity, leaves, Place, place, Telling, fault, event, goes, opening, place_behind, tell_body, tell}
use Rattle.reader.specs.Judge.{Progress, run}
use Rattle.reader.specs.Import.{go_on}
use Rattle.reader.specs.code.Found.{attrs_of}
use Rattle.reader.specs.code.Answered.{said_as, name_of, Attributed, tag_of}
use Rattle.reader.specs.code.Bodies.{BodyStretch, body_text}
use Rattle.reader.specs.code.ElementNames.{form_numbered}
use Rattle.reader.specs.code.Places.{is_some}
use Rattle.reader.specs.code.OpenElements.{word_at, top_word, one_less, moved_by}
use Rattle.reader.specs.code.Values.{sort_at}
use Rattle.reader.specs.code.EntityTags.{own_of, OwnStretches, Short}
use Rattle.reader.specs.declared.body.Content.{Content}
use Rattle.reader.specs.declared.cursor.TagRead.{TagRead}
use Rattle.reader.specs.declared.open_elements.OpenElements.{OpenElements}
use Rattle.reader.specs.declared.tell.Told.{Told}

-- Where a tag stands, by the numbers of the open elements' words.
unfoldable pub words_in : ℕ → List ℕ → List (Option Word)
words_in zero ws = []
words_in (suc l) ws = word_at (get_or ws l 0) ∷ words_in l ws

abbrev pub place_in : OpenElements → Place
place_in o = place (words_in o.level o.words) (sort_at o.items)

-- An opening tag, judged by its element, its attributes, the sort of the items before it and its values.
abbrev pub PlacedBy : List ℕ → TagRead → OpenElements → Result (Unit {0}) Refusal → Type 0
PlacedBy s t o r = said_as (λ _. t.element) r ≡ well_placed (sort_at o.items) (o.level + 1) (name_of s t) (attrs_of s t)

-- The element that opens is ClinicalData, where none is open below ODM, or an entity's.
unfoldable pub opens_as : ℕ → ℕ → List Attr → List ℕ → ℕ → Event
opens_as zero e l b word = study l
opens_as (suc d) e l b word = entity e l b (word_numbered word)

-- A tag of a kind that is accepted and does not close ODM.
unfoldable pub saying : ℕ → OpenElements → ℕ → List Attr → List ℕ → ℕ → List ℕ → Telling
saying kind o e l b word rest =
    pick (eqb kind 2) (event leaves (goes (place_in (one_less o)) rest))
    (event (opens_as o.level e l b word) (opening (eqb kind 1) (word_at word) (place_behind e (place_in o)) rest))

-- What an element holds, where it is a typed item's: its body.
abbrev pub content_text : List ℕ → Content → List ℕ
content_text s c = body_text s c.start c.end c.kind

pub record Holding (s : List ℕ) (e : ℕ) (c : Content) : Type 0 where
  pub stretch : BodyStretch s c.start c.end c.kind
  pub bodied : Bodied (element_at e).body (content_text s c)

-- Nothing, between tags that end and begin at a place.
abbrev pub no_content : ℕ → Content
no_content at = record { start = at; end = at; next = record { at = at }; kind = 0 }

-- An opening tag that is well placed where so many elements are open, with its word; ClinicalData has none.
pub record Opening (s : List ℕ) (t : TagRead) (level word : ℕ) : Type 0 where
  pub attributed : Attributed s t
  pub placed : Placed t.element (attrs_of s t)
  pub stands : may_stand (level + 1) t.element ≡ true
  pub deep : level ≤ 5
  pub clinical : level ≡ 0 → word ≡ 0
  pub entity : 1 ≤ level → word ≡ 0 → ⊥

-- A closing tag below ODM's: the word is that of the innermost element.
pub record Closing (o : OpenElements) (word : ℕ) : Type 0 where
  pub inner : 1 ≤ o.level
  pub word-is : word ≡ top_word o

-- It is accepted, and the file goes on. A typed item's tag opens and closes: its body and its closing tag are read with it.
pub record Going (x : Telling) (s : List ℕ) (t : TagRead) (o : OpenElements) (r : Told) : Type 0 where
  pub is : x ≡ saying r.kind o t.element (attrs_of s t) (content_text s r.content) r.word (drop r.content.next.at s)
  pub high : r.content.next.at ≤ length s
  pub kinds : r.kind ≤ 2
  pub opening : r.kind < 2 → t.kind < 2
  pub closing : r.kind ≡ 2 → t.kind ≡ 2
  pub opens : r.kind < 2 → Opening s t o.level r.word
  pub holding : r.kind < 2 → Holding s t.element r.content
  pub closes : r.kind ≡ 2 → Closing o r.word
  pub short : Short s r.own
  pub own_is : r.own ≡ own_of t o.level
  pub elements-is : r.elements ≡ moved_by o t.element r.kind r.word

-- The file stops here, whatever the store: it is refused, or ends with the changes so far.
abbrev pub Halts : Telling → Result (Unit {0}) Refusal → Type 0
Halts x r =
    (m : Machine) (p : Progress) (f : Progress → List ℕ → Answer (List Change)) → (run m p x >>= λ q. go_on q.got q.rest (λ y. f y q.rest)) ≡ said_as (λ _. p.added) r

-- What a tag says: nothing, where it closes ODM.
abbrev pub ToldBy : Telling → List ℕ → TagRead → OpenElements → Result (Optional Told) Refusal → Type 0
ToldBy x s t o (Ok (Some r)) = Going x s t o r
ToldBy x s t o (Ok None) = Halts x (Ok tt)
ToldBy x s t o (Err k) = Halts x (Err k)

-- A broken tag is refused with 4.
unfoldable pub telling : Bool → Place → List ℕ → TagRead → Telling
telling b x s t = pick (eqb t.kind 3) (fault 4) (tell b x (tag_of s t) (drop t.next.at s))

-- A tag behind which the file goes on: the names that it gives can be cut, and one more element can be open, or one less.
pub record Passing (kind : ℕ) (t : TagRead) (o : OpenElements) : Type 0 where
  pub few : o.level ≤ 6
  pub ordered : (t.kind ≡ 2 → ⊥) → OwnStretches t
  pub deep : kind ≡ 0 → o.level ≤ 5
  pub inner : (kind ≡ 0 → ⊥) → (kind ≡ 1 → ⊥) → 1 ≤ o.level

-- The answer of the code.
abbrev pub going_on : ℕ → ℕ → TagRead → Content → OpenElements → Told
going_on word kind t c o = record { content = c; elements = moved_by o t.element kind word; own = own_of t o.level; word = word; kind = kind }

-- A typed item's tag that is well placed, with its word and the number of its body's form.
pub record Typed (s : List ℕ) (t : TagRead) (o : OpenElements) (word form : ℕ) : Type 0 where
  pub opening : Opening s t o.level word
  pub named : is_some (element_of (name_of s t)) ≡ true
  pub kinds : t.kind < 2
  pub low : 1 ≤ o.level
  pub body : (element_at t.element).body ≡ some (form_numbered form)

-- What it says behind its word.
abbrev pub tell_content : List ℕ → TagRead → OpenElements → ℕ → ℕ → Telling
tell_content s t o word form =
    tell_body (form_numbered form) (place_in o) t.element (name_of s t) (attrs_of s t) (eqb t.kind 1) (word_numbered word) (drop t.next.at s)
