-- While a file is taken: the buffers of a machine that obeys the rules, with the file's changes so far behind its own.
use Rattle.std.specs.Prelude.{◌≡◌, Bool, true, false, Result, Ok, Err, List, [], ◌∷◌, ◌++◌, ℕ, ◌-◌, ◌≤◌, ◌<◌, eqb, leb, ltb, length, drop}
use Rattle.std.proofs.Math.Option.{none}
use Rattle.names.specs.Key.{Key, depth_of}
use Rattle.names.specs.Pick.{pick}
use Rattle.store.specs.Answer.{Answer, refused, accepted, ◌>>◌, unless}
use Rattle.store.specs.Change.{Change, kind_number, change_bytes, is_change}
use Rattle.store.specs.Machine.{Machine, changes_of, obeys, within_limits, allowed_by, changes_most, bytes_most, live_most}
use Rattle.store.specs.Image.{Buffers, machine_in, read_image, change_in, numbers_size, bytes_size}
use Rattle.store.specs.code.Index.{position_in, table_at, Indexed}
use Rattle.store.specs.code.Layout.{change_count, row_fits}
use Rattle.store.specs.Outcomes.{buffers}
use Rattle.store.specs.code.Refusals.{number_of}
use Rattle.store.specs.code.Rows.{key_at, change_at, first_changes}
use Rattle.store.specs.code.Withdrawal.{Valid}
use Rattle.store.specs.Table.{table}
use Rattle.store.specs.code.Turn.{turn}
use Rattle.store.specs.code.With.{With}
use Rattle.store.specs.declared.pending.Pending.{Pending}
use Rattle.store.specs.declared.answer.Refusal.{Refusal}

-- The machine that the contents of two buffers tell of, whatever stands behind its changes.
abbrev pub machine_of : List ℕ → List ℕ → Machine
machine_of ns bs = machine_in (buffers ns bs)

-- Of c changes those behind the machine's own: the file's so far.
unfoldable pub added_at : List ℕ → List ℕ → ℕ → List Change
added_at ns bs c = drop (change_count ns) (first_changes ns bs c)

-- The buffers hold the machine and so many changes of so many bytes, its own first.
pub record Loaded (ns bs : List ℕ) (t : Pending) : Type 0 where
  pub numbers-size : length ns ≡ numbers_size
  pub bytes-size : length bs ≡ bytes_size
  pub rules : obeys (machine_of ns bs) ≡ true
  pub holds : With (machine_of ns bs) (first_changes ns bs t.changes) ns bs t.changes t.bytes
  pub joined : first_changes ns bs t.changes ≡ changes_of (machine_of ns bs).files ++ added_at ns bs t.changes
  pub few : t.changes ≤ changes_most
  pub small : t.bytes ≤ bytes_most

-- And the index says what they leave live.
pub record Taking (ns bs index : List ℕ) (t : Pending) : Type 0 where
  pub loaded : Loaded ns bs t
  pub indexed : Indexed ns bs t.changes index t.entries

-- The answer of judging the image before a file is taken, by its cases, with this paper's number and value: the machine that the buffers are the image
-- of, or "2 image not valid".
abbrev pub loaded_as : Buffers → Result Pending Refusal → Answer Machine
loaded_as b (Ok t) = accepted (machine_in b)
loaded_as b (Err r) = refused (number_of r)

-- And what it leaves: nothing is added yet.
pub record Begins (ns bs index : List ℕ) (t : Pending) : Type 0 where
  pub taking : Taking ns bs index t
  pub valid : Valid ns bs
  pub nothing : added_at ns bs t.changes ≡ []

abbrev pub LoadedBy : List ℕ → List ℕ → List ℕ → Result Pending Refusal → Type 0
LoadedBy ns bs index (Ok t) = Begins ns bs index t
LoadedBy ns bs index (Err r) = read_image (buffers ns bs) ≡ none

-- The change that a kind, a depth and bytes say is of its form and allowed in its turn, and has no other kind, depth and bytes.
pub record NextChange (ns bs : List ℕ) (t : Pending) (kind depth : ℕ) (text : List ℕ) : Type 0 where
  pub kind-is : kind_number (change_in kind depth text).kind ≡ kind
  pub depth_is : depth_of (change_in kind depth text).key ≡ depth
  pub whole : change_bytes (change_in kind depth text) ≡ text
  pub formed : is_change (change_in kind depth text) ≡ true
  pub allowed : allowed_by (change_in kind depth text).kind (first_changes ns bs t.changes) (change_in kind depth text).key ≡ true

-- Row c is a change, allowed in its turn; the index is that of the changes before it, and in it the row's key stands or belongs as was found.
pub record NextRow (ns bs : List ℕ) (c : ℕ) (index : List ℕ) (n : ℕ) (found : Result ℕ ℕ) : Type 0 where
  pub numbers-size : length ns ≡ numbers_size
  pub bytes-size : length bs ≡ bytes_size
  pub few : c < changes_most
  pub indexed : Indexed ns bs c index n
  pub fits : row_fits ns bs c ≡ true
  pub allowed : turn (table (first_changes ns bs c)) (change_at ns bs c) ≡ true
  pub found-is : found ≡ position_in (key_at ns bs c) (table_at ns bs index n)

-- What the code has seen of a key: that it stands or belongs at a place of the index.
abbrev pub LooksUp : List ℕ → List ℕ → List ℕ → Pending → Key → Result ℕ ℕ → Type 0
LooksUp ns bs index t k s = s ≡ position_in k (table_at ns bs index t.entries)

-- Whether one more change of a kind, of so many bytes, passes no limit.
unfoldable pub room_for : Pending → ℕ → ℕ → Bool
room_for t kind size =
    pick (leb changes_most t.changes) false (pick (ltb (bytes_most - t.bytes) size) false (pick (eqb kind 1) (ltb t.entries live_most) true))

-- One change more: "a limit is checked as each change is added".
unfoldable pub changes_with : List Change → Change → Answer (List Change)
changes_with cs x = unless (within_limits (cs ++ x ∷ [])) 13 >> accepted (cs ++ x ∷ [])

-- The answer of adding a change, by its cases, with this paper's number and value: the changes that then stand in the buffers, or "13 over 64 files, 2,048
-- changes, 49,152 change bytes or 512 live".
abbrev pub added_as : List ℕ → List ℕ → Result Pending Refusal → Answer (List Change)
added_as ns bs (Ok t) = accepted (first_changes ns bs t.changes)
added_as ns bs (Err r) = refused (number_of r)

-- And what it leaves: the change stands behind the others, and the index goes on; or nothing changed.
pub record Grown (ns bs : List ℕ) (t : Pending) (x : Change) (ns' bs' index' : List ℕ) (t' : Pending) : Type 0 where
  pub within : within_limits (first_changes ns bs t.changes ++ x ∷ []) ≡ true
  pub machine : machine_of ns' bs' ≡ machine_of ns bs
  pub changes : first_changes ns' bs' t'.changes ≡ first_changes ns bs t.changes ++ x ∷ []
  pub added : added_at ns' bs' t'.changes ≡ added_at ns bs t.changes ++ x ∷ []
  pub taking : Taking ns' bs' index' t'

pub record Overfull (ns bs : List ℕ) (t : Pending) (x : Change) (ns' bs' : List ℕ) : Type 0 where
  pub beyond : within_limits (first_changes ns bs t.changes ++ x ∷ []) ≡ false
  pub numbers : ns' ≡ ns
  pub bytes : bs' ≡ bs

abbrev pub AddedTo : List ℕ → List ℕ → Pending → Change → List ℕ → List ℕ → List ℕ → Result Pending Refusal → Type 0
AddedTo ns bs t x ns' bs' index' (Ok t') = Grown ns bs t x ns' bs' index' t'
AddedTo ns bs t x ns' bs' index' (Err r) = Overfull ns bs t x ns' bs'
