-- What every judged tag keeps: the changes so far are allowed in turn and within the limits, and every open entity is live. Contracts of inner functions cite it.
use Rattle.std.specs.Prelude.{◌≡◌, List, [], ◌∷◌, ◌++◌, Bool, true, false, ◌||◌, ℕ, zero, suc, ◌<◌, eqb, leb, length}
use Rattle.names.specs.Key.{Key, is_key, names_used, depth_of}
use Rattle.names.specs.Name.{is_value}
use Rattle.store.specs.Change.{Change, Value, is_item, is_null, live, changes_bytes, parent_of}
use Rattle.store.specs.Machine.{Machine, changes_of, changes_most, bytes_most, in_turn}
use Rattle.reader.specs.Judge.{Frame, Progress}

-- The key of an open element with so many others around it below ODM: ClinicalData has none.
abbrev pub KeyOfDepth : ℕ → Key → Type 0
KeyOfDepth zero k = k ≡ []
KeyOfDepth (suc d) k = (is_key k ≡ true) × (length k ≡ names_used (suc d)) × (d < 5)

-- An open element with so many others around it below ODM; where it is an entity's, the entity is live.
abbrev pub Open : List Change → ℕ → Frame → Type 0
Open past zero f = (f.key ≡ []) × (f.ending ≡ false)
Open past (suc d) f = KeyOfDepth (suc d) f.key × (live past f.key ≡ true)

abbrev pub Stack : List Change → List Frame → Type 0
Stack past [] = Unit {0}
Stack past (f ∷ fs) = Open past (length fs) f × Stack past fs

-- The changes of this file so far.
pub record Held (m : Machine) (cs : List Change) : Type 0 where
  pub turn : in_turn (changes_of m.files) cs ≡ true
  pub many : leb (length (changes_of m.files ++ cs)) changes_most ≡ true
  pub long : leb (length (changes_bytes (changes_of m.files ++ cs))) bytes_most ≡ true

pub record Within (m : Machine) (p : Progress) : Type 0 where
  pub held : Held m p.added
  pub stack : Stack (changes_of m.files ++ p.added) p.frames

-- An entity whose element may open under those that are open: its key, and a value that only an item may have.
pub record Fits (past : List Change) (d : ℕ) (k : Key) (v : Value) (g : Bool) : Type 0 where
  pub key : KeyOfDepth (suc d) k
  pub parent : (eqb (depth_of k) 1 || live past (parent_of k)) ≡ true
  pub value : is_value v ≡ true
  pub null : (is_item k || is_null v) ≡ true
  pub given : g ≡ true → is_item k ≡ true
