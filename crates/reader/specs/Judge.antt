-- What the store does with what the tags of a file say: 9 and 13 at the ODM tag, then 8, 11, 12 and 13.
use Rattle.std.specs.Prelude.{Bool, true, false, not, ◌||◌, List, [], ◌∷◌, ◌++◌, ℕ, suc, ltb, length}
use Rattle.std.proofs.Math.Option.{Option, none, some}
use Rattle.names.specs.Bytes.{bytes}
use Rattle.names.specs.Date.{not_later}
use Rattle.names.specs.Key.{Key, own_names}
use Rattle.names.specs.Order.{same}
use Rattle.names.specs.Pick.{◌and◌}
use Rattle.store.specs.Answer.{Answer, refused, accepted, ◌>>=◌, ◌>>◌, unless}
use Rattle.store.specs.Change.{make, write, end, Change, change, Value, live}
use Rattle.store.specs.Machine.{Filed, Machine, changes_of, standing, last_filed, files_most, within_limits}
use Rattle.store.specs.Word.{Word, Decision, refuse, nothing, add, decide}
use Rattle.reader.specs.Tag.{Read, read, Attr, Tag, has}
use Rattle.reader.specs.Element.{Form, element_at, attribute_at, sort_behind, get, or_else, well_placed}
use Rattle.reader.specs.Tell.{Event, study, entity, leaves, Place, place, Telling, fault, event, goes, finishes, tell}

-- What the ODM tag says of the file: its FileOID, the date to keep, and whether it is a Snapshot.
pub record Header : Type 0 where
  pub oid : List ℕ
  pub date : List ℕ
  pub snapshot : Bool

-- "An absent AsOfDateTime is the CreationDateTime; the store keeps it."
unfoldable pub header_of : List Attr → Header
header_of as' = record {
  oid = or_else [] (get (bytes "FileOID") as');
  date = or_else (or_else [] (get (bytes "CreationDateTime") as')) (get (bytes "AsOfDateTime") as');
  snapshot = same (bytes "Snapshot") (or_else [] (get (bytes "FileType") as'));
}

-- "PriorFileOID is absent if F is 0, else the last standing FileOID; AsOfDateTime is not .. before the last kept date; a Snapshot needs F = 0."
unfoldable pub follows : Option Filed → Option (List ℕ) → Header → Bool
follows none none h = true
follows none (some prior) h = false
follows (some f) none h = false
follows (some f) (some prior) h = same prior f.oid and not_later f.date h.date and not h.snapshot

-- "Series: FileOID isn't standing; ..; AsOfDateTime is not after CreationDateTime".
unfoldable pub in_series : List Filed → List Attr → Bool
in_series fs as' =
    not (standing (header_of as').oid fs)
    and follows (last_filed fs) (get (bytes "PriorFileOID") as') (header_of as')
    and not_later (header_of as').date (or_else [] (get (bytes "CreationDateTime") as'))

-- The ODM tag: 5, 6, 7, then "9 series broken"; "files at the ODM tag".
unfoldable pub open_odm : Machine → List ℕ → List Attr → Answer Header
open_odm m n as' =
    well_placed none 0 n as'
    >> unless (in_series m.files as') 9
    >> unless (ltb (length m.files) files_most) 13
    >> accepted (header_of as')

-- An open element below ODM: the key of its entity, its word, and whether its closing tag adds an end.
pub record Frame : Type 0 where
  pub key : Key
  pub word : Option Word
  pub ending : Bool

abbrev pub frame : Key → Option Word → Bool → Frame
frame k w b = record { key = k; word = w; ending = b }

-- ClinicalData is of no entity.
abbrev pub clinical_frame : Frame
clinical_frame = frame [] none false

-- What the file has shown so far beside its changes: whether its items are typed, where it had any.
pub record Shown : Type 0 where
  pub items : Option Bool

abbrev pub shown : Option Bool → Shown
shown items = record { items = items }

-- The open elements below ODM, the innermost first, the changes of this file so far, and what else it has shown.
pub record Progress : Type 0 where
  pub frames : List Frame
  pub added : List Change
  pub shown : Shown

abbrev pub progress : List Frame → List Change → Shown → Progress
progress fs cs x = record { frames = fs; added = cs; shown = x }

-- "a limit is checked as each change is added": the changes of this file with one more.
unfoldable pub adding : Machine → List Change → Change → Answer (List Change)
adding m cs c = unless (within_limits (changes_of m.files ++ (cs ++ c ∷ []))) 13 >> accepted (cs ++ c ∷ [])

-- What the word of an entity did: the changes with its own, and whether its closing tag adds an end.
pub record Settled : Type 0 where
  pub changes : List Change
  pub ending : Bool

abbrev pub settled : List Change → Bool → Settled
settled cs b = record { changes = cs; ending = b }

-- What a decision does. "All others take effect at the opening tag"; a Remove's end waits for the closing tag.
unfoldable pub effect : Machine → List Change → Key → Value → Decision → Answer Settled
effect m cs k v (refuse n) = refused n
effect m cs k v nothing = accepted (settled cs false)
effect m cs k v (add make) = adding m cs (change make k v) >>= λ ds. accepted (settled ds false)
effect m cs k v (add write) = adding m cs (change write k v) >>= λ ds. accepted (settled ds false)
effect m cs k v (add end) = accepted (settled cs true)

-- The word of an entity is done: 11 or 12, then 13. It meets the entity live or not live as the changes before it left it.
unfoldable pub settle : Machine → List Change → Key → Value → Bool → Word → Answer Settled
settle m cs k v given w = effect m cs k v (decide w (live (changes_of m.files ++ cs) k) given)

unfoldable pub outer_key : List Frame → Key
outer_key [] = []
outer_key (f ∷ fs) = f.key

-- The key of an entity of a depth, from its parent's and its own attributes.
unfoldable pub key_here : ℕ → List Frame → List Attr → Key
key_here depth fs as' =
    outer_key fs ++ own_names depth (or_else [] (get (attribute_at (suc depth) 0) as')) (or_else [] (get (attribute_at (suc depth) 1) as'))

-- "Value="" and IsNull="Yes" both give null; an Insert with neither gives null." A typed item's value is its body, "so Update always writes".
unfoldable pub value_by : Option Form → List Attr → List ℕ → Value
value_by none as' b = or_else [] (get (bytes "Value") as')
value_by (some f) as' b = b

unfoldable pub given_by : Option Form → List Attr → Bool
given_by none as' = has (bytes "Value") as' || has (bytes "IsNull") as'
given_by (some f) as' = true

-- An element of a number opens.
abbrev pub entering : Progress → ℕ → List Change → Frame → Progress
entering p e cs f = progress (f ∷ p.frames) cs (shown (sort_behind e p.shown.items))

-- An element closes: "the end is added at the closing tag, after the children's".
unfoldable pub closing : Machine → List Change → Key → Bool → Answer (List Change)
closing m cs k false = accepted cs
closing m cs k true = adding m cs (change end k [])

unfoldable pub leaving : Machine → Progress → List Frame → Answer Progress
leaving m p [] = accepted p
leaving m p (f ∷ fs) = closing m p.added f.key f.ending >>= λ cs. accepted (progress fs cs p.shown)

-- What the store does with an event: "8 not this store's study or version"; an entity's 11, 12 and 13; the 13 of a Remove's end.
unfoldable pub act : Machine → Progress → Event → Answer Progress
act m p (study as') =
    unless (same m.study (or_else [] (get (bytes "StudyOID") as')) and same m.version (or_else [] (get (bytes "MetaDataVersionOID") as'))) 8
    >> accepted (progress (clinical_frame ∷ p.frames) p.added p.shown)
act m p (entity e as' b w) =
    settle m p.added (key_here (length p.frames) p.frames as') (value_by (element_at e).body as' b) (given_by (element_at e).body as') w >>= λ d.
    accepted (entering p e d.changes (frame (key_here (length p.frames) p.frames as') (some w) d.ending))
act m p leaves = leaving m p p.frames

-- What follows a tag: more of the file, or its end, where it closed ODM.
pub data Next : Type 0 where
  more : Progress → Next
  closed : List Change → Next

-- The events of a tag one after another; the first refusal stands.
unfoldable pub run : Machine → Progress → Telling → Answer (Read Next)
run m p (fault n) = refused n
run m p (event e t) = act m p e >>= λ q. run m q t
run m p (goes x s) = accepted (read (more p) s)
run m p (finishes s) = accepted (read (closed p.added) s)

-- Where the next tag stands.
unfoldable pub words_of : List Frame → List (Option Word)
words_of [] = []
words_of (f ∷ fs) = f.word ∷ words_of fs

abbrev pub place_of : Progress → Place
place_of p = place (words_of p.frames) p.shown.items

-- One tag, with the bytes behind it, "judged .. wholly before the next".
unfoldable pub judge : Machine → Header → Progress → Tag → List ℕ → Answer (Read Next)
judge m h p t s = run m p (tell h.snapshot (place_of p) t s)
