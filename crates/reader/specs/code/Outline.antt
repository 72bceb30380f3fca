-- What a whole file says without a store, and what the store does with it.
use Rattle.std.specs.Prelude.{Bool, true, false, List, [], ◌∷◌, ℕ, zero, suc, ltb, length}
use Rattle.std.proofs.Math.Option.{none}
use Rattle.store.specs.Answer.{Answer, refused, accepted, ◌>>=◌, ◌>>◌, unless}
use Rattle.store.specs.Machine.{Machine, files_most}
use Rattle.reader.specs.Tag.{Attr, Tag, opens, closes, skip, next_tag}
use Rattle.reader.specs.Element.{well_placed}
use Rattle.reader.specs.Tell.{Event, Place, place, Telling, fault, event, goes, finishes, tell}
use Rattle.reader.specs.Judge.{header_of, in_series, Progress, act}
use Rattle.reader.specs.Import.{is_nil, body, begun, Contents}

-- The events that a tag tells, in front of those that follow it.
unfoldable pub event_before : Event → Answer (List Event) → Answer (List Event)
event_before e a = a >>= λ es. accepted (e ∷ es)

unfoldable pub told : Telling → (Place → List ℕ → Answer (List Event)) → Answer (List Event)
told (fault n) rest = refused n
told (event e t) rest = event_before e (told t rest)
told (goes x s) rest = rest x s
told (finishes s) rest = unless (is_nil (skip s)) 4 >> accepted []

-- The tags below ODM and its closing tag. The first argument bounds their number.
unfoldable pub outline : ℕ → Bool → Place → List ℕ → Answer (List Event)
outline zero b x s = refused 4
outline (suc n) b x s = next_tag s >>= λ t. told (tell b x t.got t.rest) (λ y r. outline n b y r)

-- What a file says: the attributes of its ODM tag, and its events.
pub record Outlined : Type 0 where
  pub header : List Attr
  pub events : List Event

unfoldable pub below_odm : Bool → Bool → List ℕ → Answer (List Event)
below_odm true b s = unless (is_nil (skip s)) 4 >> accepted []
below_odm false b s = outline (suc (length s)) b (place [] none) s

unfoldable pub from_odm : Tag → List ℕ → Answer Outlined
from_odm (closes n) s = refused 4
from_odm (opens n as' self) s =
    well_placed none 0 n as'
    >> below_odm self (header_of as').snapshot s >>= λ es.
    accepted record { header = as'; events = es }

unfoldable pub outline_file : List ℕ → Answer Outlined
outline_file s = next_tag (body s) >>= λ t. from_odm t.got t.rest

-- The events one after another.
unfoldable pub acts : Machine → Progress → List Event → Answer Progress
acts m p [] = accepted p
acts m p (e ∷ es) = act m p e >>= λ q. acts m q es

-- What the store does with what a file says: the ODM tag's 9 and 13, then its events.
unfoldable pub taken_by : Machine → Outlined → Answer Contents
taken_by m x =
    unless (in_series m.files x.header) 9
    >> unless (ltb (length m.files) files_most) 13
    >> (acts m begun x.events >>= λ q. accepted record { header = header_of x.header; changes = q.added })
