-- What the store does with a tag, with the buffers that it leaves.
use Rattle.std.specs.Prelude.{Option, Some, None, ◌≡◌, Bool, false, not, Result, Ok, Err, is_ok, List, [], ℕ, ◌+◌, ◌-◌, ◌≤◌, ◌<◌, eqb, length, take}
use Rattle.names.specs.Bytes.{bytes}
use Rattle.names.specs.Key.{Key, Name, packed}
use Rattle.names.specs.Name.{value_most}
use Rattle.names.specs.Order.{same}
use Rattle.names.specs.Pick.{pick, ◌and◌}
use Rattle.store.specs.Answer.{Answer, refused, accepted, unless, ◌>>=◌, ◌>>◌}
use Rattle.store.specs.Change.{kind_number, make, write, end, Change, Value, live}
use Rattle.store.specs.Image.{change_in}
use Rattle.store.specs.code.Deciding.{kind_said, word_numbered}
use Rattle.store.specs.declared.decide.Kind.{Kind as Planned}
use Rattle.store.specs.declared.decide.Kind.TheVariants.{Make, Write, End}
use Rattle.store.specs.Machine.{Machine}
use Rattle.store.specs.Word.{Word, Decision, refuse, nothing, add}
use Rattle.store.specs.code.Rows.{first_changes}
use Rattle.store.specs.code.Pending.{machine_of, added_at, Taking, NextChange, LooksUp}
use Rattle.store.specs.code.Refusals.{number_of}
use Rattle.store.specs.declared.answer.Refusal.{Refusal}
use Rattle.store.specs.declared.pending.Pending.{Pending}
use Rattle.reader.specs.Tag.{Attr}
use Rattle.reader.specs.Element.{element_at, get, or_else}
use Rattle.reader.specs.Tell.{Event, leaves}
use Rattle.reader.specs.Judge.{Header, shown, Progress, progress, adding, settle, value_by, given_by, closing, act}
use Rattle.reader.specs.code.Found.{attrs_of}
use Rattle.reader.specs.code.Answered.{Attributed}
use Rattle.reader.specs.code.Keeping.{Fits, Within}
use Rattle.reader.specs.code.Placed.{Placed}
use Rattle.reader.specs.code.EntityTags.{eight_in, key_held, tag_depth, Filled, Endable}
use Rattle.reader.specs.code.OpenElements.{frames_of}
use Rattle.reader.specs.code.Values.{sort_at}
use Rattle.reader.specs.code.Telling.{content_text, Holding, Opening, Closing}
use Rattle.reader.specs.declared.body.Content.{Content}
use Rattle.reader.specs.declared.cursor.TagRead.{TagRead}
use Rattle.reader.specs.declared.open_elements.OpenElements.{OpenElements}
use Rattle.reader.specs.declared.act.Plan.{Plan}
use Rattle.reader.specs.declared.tell.Told.{Told}

-- Of a header the tags below ODM ask only whether the file is a Snapshot.
abbrev pub headed : Bool → Header
headed b = record { oid = []; date = []; snapshot = b }

-- How far the file is read, as the code holds it: k are the names that are held.
abbrev pub progress_at : List ℕ → List ℕ → Pending → OpenElements → List Name → Progress
progress_at ns bs t o k = progress (frames_of o k) (added_at ns bs t.changes) (shown (sort_at o.items))

-- So much taken, and the next key looked for at another place first. No promise rests on that place.
abbrev pub finger_at : Pending → ℕ → Pending
finger_at t f = record { changes = t.changes; bytes = t.bytes; entries = t.entries; finger = f }

-- It is refused, and nothing changed.
pub record Denied {A : Type 0} (a : Answer A) (k : Refusal) (ns bs ns' bs' : List ℕ) : Type 0 where
  pub is : a ≡ refused (number_of k)
  pub numbers : ns' ≡ ns
  pub bytes : bs' ≡ bs

-- What the store does with the events of a tag of a kind: what opens, and where the element closes with the same tag, that it leaves.
unfoldable pub acting : Machine → Progress → ℕ → Event → Answer Progress
acting m p kind e = pick (eqb kind 2) (act m p leaves) (act m p e >>= λ q. pick (eqb kind 1) (act m q leaves) (accepted q))

-- It is done, with the elements that are open then, and the buffers that it leaves.
pub record Acted (a : Answer Progress) (ns bs ns' bs' index' : List ℕ) (o : OpenElements) (k : List Name) (t : Pending) : Type 0 where
  pub is : a ≡ accepted (progress_at ns' bs' t o k)
  pub machine : machine_of ns' bs' ≡ machine_of ns bs
  pub taking : Taking ns' bs' index' t

abbrev pub ActedBy : Answer Progress → List ℕ → List ℕ → List ℕ → List ℕ → List ℕ → OpenElements → List Name → Result Pending Refusal → Type 0
ActedBy a ns bs ns' bs' index' o k (Ok t) = Acted a ns bs ns' bs' index' o k t
ActedBy a ns bs ns' bs' index' o k (Err r) = Denied a r ns bs ns' bs'

-- What is known of a tag that the store is told of: the key of the entity that it opens or closes is held.
pub record Acting (ns bs index : List ℕ) (pending : Pending) (s : List ℕ) (t : TagRead) (o : OpenElements) (c : Content) (kind word depth : ℕ) (held lens : List ℕ) : Type 0 where
  pub taking : Taking ns bs index pending
  pub names-size : length held ≡ 128
  pub lengths_size : length lens ≡ 8
  pub words_size : length o.words ≡ 8
  pub few : o.level ≤ 6
  pub kinds : kind ≤ 2
  pub depth_is : depth ≡ tag_depth kind o.level
  pub opens : kind < 2 → Opening s t o.level word
  pub holding : kind < 2 → Holding s t.element c
  pub closes : kind ≡ 2 → Closing o word
  pub filled : Filled s t kind o.level (eight_in held lens)
  pub within : Within (machine_of ns bs) (progress_at ns bs pending o (eight_in held lens))

-- The changes of the file behind a tag. ClinicalData adds none: "8 not this store's study or version".
unfoldable pub study_changes : Machine → List Change → List Attr → Answer (List Change)
study_changes m cs l =
    unless (same m.study (or_else [] (get (bytes "StudyOID") l)) and same m.version (or_else [] (get (bytes "MetaDataVersionOID") l))) 8 >> accepted cs

-- The value that a tag gives its entity, and whether it gives one.
abbrev pub tag_value : List ℕ → TagRead → Content → Value
tag_value s t c = value_by (element_at t.element).body (attrs_of s t) (content_text s c)

abbrev pub tag_given : List ℕ → TagRead → Bool
tag_given s t = given_by (element_at t.element).body (attrs_of s t)

-- The tag that opens an entity's element does its word, and where it closes the element too, it adds the end of a Remove.
unfoldable pub entity_changes : Machine → List Change → ℕ → Key → Value → Bool → Word → Answer (List Change)
entity_changes m cs kind k v g w =
    settle m cs k v g w >>= λ d. pick (eqb kind 0) (accepted d.changes) (closing m d.changes k d.ending)

unfoldable pub tag_changes : Machine → List Change → ℕ → ℕ → Key → List Attr → Value → Bool → ℕ → Answer (List Change)
tag_changes m cs kind depth k l v g word =
    pick (eqb kind 2) (closing m cs k (eqb word 4)) (pick (eqb depth 0) (study_changes m cs l) (entity_changes m cs kind k v g (word_numbered word)))

-- A tag that closes an element which its word does not remove asks nothing of the store.
unfoldable pub idle_at : ℕ → ℕ → Bool
idle_at kind word = pick (eqb kind 2) (not (eqb word 4)) false

-- An opening tag of an entity whose key is held.
pub record EntityOpens (past : List Change) (s : List ℕ) (t : TagRead) (c : Content) (depth : ℕ) (k : Key) : Type 0 where
  pub row : 2 ≤ t.element
  pub attributed : Attributed s t
  pub placed : Placed t.element (attrs_of s t)
  pub holding : Holding s t.element c
  pub low : 1 ≤ depth
  pub fits : Fits past (depth - 1) k (tag_value s t c) (tag_given s t)

-- What the plan of a tag that is not idle rests on.
pub record Planning (ns bs : List ℕ) (pending : Pending) (s : List ℕ) (t : TagRead) (c : Content) (kind word depth : ℕ) (held lens : List ℕ) : Type 0 where
  pub ends : kind ≡ 2 → (word ≡ 4) × Endable (first_changes ns bs pending.changes) depth (key_held depth held lens)
  pub clinical : (kind ≡ 2 → ⊥) → depth ≡ 0 → Opening s t 0 0
  pub entity : (kind ≡ 2 → ⊥) → (depth ≡ 0 → ⊥) → EntityOpens (first_changes ns bs pending.changes) s t c depth (key_held depth held lens)

-- Plans of the code, by their parts, and by what the word of an entity decides: p is the plan of its end.
abbrev pub plan_of : Result ℕ ℕ → ℕ → Option Planned → Plan
plan_of lookup e kind = record { lookup = lookup; end = e; kind = kind }

unfoldable pub word_plan : Decision → Plan → ℕ → ℕ → Answer Plan
word_plan (refuse n) p kind e = refused n
word_plan nothing p kind e = accepted (plan_of p.lookup 0 None)
word_plan (add make) p kind e = accepted (plan_of p.lookup e (Some Make))
word_plan (add write) p kind e = accepted (plan_of p.lookup e (Some Write))
word_plan (add end) p kind e = accepted (pick (eqb kind 0) (plan_of p.lookup 0 None) p)

-- The plan of an entity's end: the bytes of its key stand in a text, with room for a value behind, and it was looked up.
pub record EndPlanned (ns bs index : List ℕ) (t : Pending) (k : Key) (text : List ℕ) (p : Plan) : Type 0 where
  pub kind : p.kind ≡ Some End
  pub front : take p.end text ≡ packed k
  pub size : p.end ≡ length (packed k)
  pub room : p.end + value_most ≤ length text
  pub live : is_ok p.lookup ≡ live (first_changes ns bs t.changes) k
  pub looked : LooksUp ns bs index t k p.lookup

-- The changes of the file once a plan is carried out: the change that is to be added has its bytes in a text.
unfoldable pub change_planned : Option Planned → Machine → List Change → ℕ → List ℕ → Answer (List Change)
change_planned None m cs depth text = accepted cs
change_planned (Some k) m cs depth text = adding m cs (change_in (kind_number (kind_said k)) depth text)

abbrev pub plan_changes : Machine → List Change → ℕ → List ℕ → Plan → Answer (List Change)
plan_changes m cs depth text p = change_planned p.kind m cs depth (take p.end text)

-- The change may be added.
pub record Addable (ns bs index : List ℕ) (t : Pending) (kind depth : ℕ) (text : List ℕ) (lookup : Result ℕ ℕ) : Type 0 where
  pub next : NextChange ns bs t kind depth text
  pub looked : LooksUp ns bs index t (change_in kind depth text).key lookup

abbrev pub Ready : List ℕ → List ℕ → List ℕ → Pending → ℕ → List ℕ → Plan → Type 0
Ready ns bs index t depth text p = (k : Planned) → p.kind ≡ Some k → (p.end ≤ length text) × Addable ns bs index t (kind_number (kind_said k)) depth (take p.end text) p.lookup

-- A plan that is ready, and leaves these changes.
pub record Plans (a : Answer (List Change)) (ns bs index : List ℕ) (t : Pending) (depth : ℕ) (text : List ℕ) (p : Plan) : Type 0 where
  pub is : a ≡ plan_changes (machine_of ns bs) (added_at ns bs t.changes) depth text p
  pub ready : Ready ns bs index t depth text p

abbrev pub PlannedBy : Answer (List Change) → List ℕ → List ℕ → List ℕ → Pending → ℕ → List ℕ → Result Plan Refusal → Type 0
PlannedBy a ns bs index t depth text (Ok p) = Plans a ns bs index t depth text p
PlannedBy a ns bs index t depth text (Err k) = a ≡ refused (number_of k)

-- No change is added: only the place where the next key is looked for moves.
abbrev pub Unchanged : Pending → Pending → Type 0
Unchanged t t' = t' ≡ finger_at t t'.finger

-- The changes that the buffers leave.
pub record Changed (a : Answer (List Change)) (ns bs ns' bs' index' : List ℕ) (t : Pending) : Type 0 where
  pub is : a ≡ accepted (added_at ns' bs' t.changes)
  pub machine : machine_of ns' bs' ≡ machine_of ns bs
  pub taking : Taking ns' bs' index' t

abbrev pub ChangedBy : Answer (List Change) → List ℕ → List ℕ → List ℕ → List ℕ → List ℕ → Result Pending Refusal → Type 0
ChangedBy a ns bs ns' bs' index' (Ok t) = Changed a ns bs ns' bs' index' t
ChangedBy a ns bs ns' bs' index' (Err k) = Denied a k ns bs ns' bs'

-- What the plan of a tag rests on, unless it asks nothing of the store.
pub record Asking (ns bs index : List ℕ) (t : Pending) (s : List ℕ) (g : TagRead) (r : Told) (depth : ℕ) (held lens : List ℕ) : Type 0 where
  pub taking : Taking ns bs index t
  pub names-size : length held ≡ 128
  pub lengths_size : length lens ≡ 8
  pub plan : idle_at r.kind r.word ≡ false → Planning ns bs t s g r.content r.kind r.word depth held lens

-- The changes of the file with what a tag asks for; the key that is held is its entity's.
abbrev pub asked_of : List ℕ → List ℕ → Pending → List ℕ → TagRead → Told → ℕ → List ℕ → List ℕ → Answer (List Change)
asked_of ns bs t s g r depth held lens = tag_changes (machine_of ns bs) (added_at ns bs t.changes) r.kind depth (key_held depth held lens) (attrs_of s g) (tag_value s g r.content) (tag_given s g) r.word

-- The same of what was told: where the file stops by it, nothing is asked.
abbrev pub AskingOf : List ℕ → List ℕ → List ℕ → Pending → List ℕ → TagRead → Result (Option Told) Refusal → ℕ → List ℕ → List ℕ → Type 0
AskingOf ns bs index t s g (Ok (Some r)) depth held lens = Asking ns bs index t s g r depth held lens
AskingOf ns bs index t s g (Ok None) depth held lens = Unit {0}
AskingOf ns bs index t s g (Err k) depth held lens = Unit {0}

-- What an accepted tag asks for is done.
abbrev pub DoneBy : Answer (List Change) → List ℕ → List ℕ → List ℕ → List ℕ → List ℕ → Result (Option Pending) Refusal → Type 0
DoneBy a ns bs ns' bs' index' (Ok (Some t)) = Changed a ns bs ns' bs' index' t
DoneBy a ns bs ns' bs' index' (Ok None) = ⊥
DoneBy a ns bs ns' bs' index' (Err k) = Denied a k ns bs ns' bs'

-- The file stops here by what its tag says: so it is answered, and nothing changes.
pub record Rests (ns bs ns' bs' : List ℕ) (r d : Result (Option Pending) Refusal) : Type 0 where
  pub is : d ≡ r
  pub numbers : ns' ≡ ns
  pub bytes : bs' ≡ bs

-- What is done with a tag, by what was told of it.
abbrev pub Acts : List ℕ → List ℕ → Pending → List ℕ → TagRead → Result (Option Told) Refusal → ℕ → List ℕ → List ℕ → List ℕ → List ℕ → List ℕ → Result (Option Pending) Refusal → Type 0
Acts ns bs t s g (Ok (Some r)) depth held lens ns' bs' index' d = DoneBy (asked_of ns bs t s g r depth held lens) ns bs ns' bs' index' d
Acts ns bs t s g (Ok None) depth held lens ns' bs' index' d = Rests ns bs ns' bs' (Ok None) d
Acts ns bs t s g (Err k) depth held lens ns' bs' index' d = Rests ns bs ns' bs' (Err k) d
