-- The machine: "State: study, version, standing files, and an ordered list of changes."
use Rattle.std.specs.Prelude.{Bool, true, not, ◌||◌, List, [], ◌∷◌, ◌++◌, ℕ, eqb, leb, length}
use Rattle.std.proofs.Math.Option.{Option, none, some}
use Rattle.names.specs.Bytes.{all, any}
use Rattle.names.specs.Date.{is_date, not_later}
use Rattle.names.specs.Key.{Key, depth_of}
use Rattle.names.specs.Name.{is_long_name}
use Rattle.names.specs.Order.{same}
use Rattle.names.specs.Pick.{◌and◌}
use Rattle.store.specs.Change.{Kind, make, write, end, Change, is_change, parent_of, live, changes_bytes}
use Rattle.store.specs.Table.{table}

-- A standing file: its FileOID, the date that is kept, and the changes that it added.
pub record Filed : Type 0 where
  pub oid : List ℕ
  pub date : List ℕ
  pub changes : List Change

pub record Machine : Type 0 where
  pub study : List ℕ
  pub version : List ℕ
  pub files : List Filed

-- The machine with other standing files.
abbrev pub with_files : Machine → List Filed → Machine
with_files m fs = record { study = m.study; version = m.version; files = fs }

unfoldable pub changes_of : List Filed → List Change
changes_of [] = []
changes_of (f ∷ fs) = f.changes ++ changes_of fs

-- The limits: "over 64 files, 2,048 changes, 49,152 change bytes or 512 live".
abbrev pub files_most : ℕ
files_most = 64

abbrev pub changes_most : ℕ
changes_most = 2048

abbrev pub bytes_most : ℕ
bytes_most = 49152

abbrev pub live_most : ℕ
live_most = 512

unfoldable pub within_limits : List Change → Bool
within_limits cs = leb (length cs) changes_most and leb (length (changes_bytes cs)) bytes_most and leb (length (table cs)) live_most

-- "make: not live and, beyond depth 1, parent live; write and end: live"
unfoldable pub allowed_by : Kind → List Change → Key → Bool
allowed_by make past k = not (live past k) and (eqb (depth_of k) 1 || live past (parent_of k))
allowed_by write past k = live past k
allowed_by end past k = live past k

-- "every change is allowed in turn .., and at most 512 entities are live after each"
unfoldable pub in_turn : List Change → List Change → Bool
in_turn past [] = true
in_turn past (c ∷ cs) =
    is_change c and allowed_by c.kind past c.key and leb (length (table (past ++ c ∷ []))) live_most and in_turn (past ++ c ∷ []) cs

-- A FileOID is standing.
unfoldable pub standing : List ℕ → List Filed → Bool
standing oid fs = any (λ f. same oid f.oid) fs

unfoldable pub last_filed : List Filed → Option Filed
last_filed [] = none
last_filed (f ∷ []) = some f
last_filed (f ∷ g ∷ fs) = last_filed (g ∷ fs)

-- "FileOIDs are distinct"
unfoldable pub distinct : List Filed → Bool
distinct [] = true
distinct (f ∷ fs) = not (standing f.oid fs) and distinct fs

-- "dates are valid and never fall"; "dates compare as text"
unfoldable pub never_fall : List Filed → Bool
never_fall [] = true
never_fall (f ∷ []) = true
never_fall (f ∷ g ∷ fs) = not_later f.date g.date and never_fall (g ∷ fs)

unfoldable pub is_filed : Filed → Bool
is_filed f = is_long_name f.oid and is_date f.date

-- The rules that a machine obeys.
unfoldable pub obeys : Machine → Bool
obeys m =
    is_long_name m.study
    and is_long_name m.version
    and leb (length m.files) files_most
    and all is_filed m.files
    and distinct m.files
    and never_fall m.files
    and leb (length (changes_of m.files)) changes_most
    and leb (length (changes_bytes (changes_of m.files))) bytes_most
    and in_turn [] (changes_of m.files)

-- "with no file and no change"
unfoldable pub empty : List ℕ → List ℕ → Machine
empty study version = record { study = study; version = version; files = [] }
