-- Import: "accepts exactly the files that ODM 1.3.2, as narrowed, allows on the store as it is".
use Rattle.std.specs.Prelude.{Bool, true, false, List, [], ◌∷◌, ◌++◌, ℕ, zero, suc, leb, length}
use Rattle.std.proofs.Math.Option.{none}
use Rattle.names.specs.Bytes.{bytes}
use Rattle.store.specs.Answer.{Answer, refused, accepted, ◌>>=◌, ◌>>◌, unless}
use Rattle.store.specs.Change.{Change}
use Rattle.store.specs.Machine.{Machine, with_files}
use Rattle.store.specs.Image.{Buffers}
use Rattle.store.specs.Calls.{Accepted, Outcome, outcome, opened}
use Rattle.reader.specs.Tag.{Tag, opens, closes, strip, skip, next_tag}
use Rattle.reader.specs.Element.{or_else}
use Rattle.reader.specs.Judge.{Header, open_odm, shown, Progress, progress, Next, more, closed, judge}

-- "At most 262,144 bytes."
abbrev pub file_most : ℕ
file_most = 262144

-- "Optionally first, exactly `<?xml version="1.0" encoding="UTF-8"?>`"
unfoldable pub declaration : List ℕ
declaration = bytes "<?xml version=\"1.0\" encoding=\"UTF-8\"?>"

unfoldable pub body : List ℕ → List ℕ
body s = or_else s (strip declaration s)

unfoldable pub is_nil : List ℕ → Bool
is_nil [] = true
is_nil (c ∷ s) = false

-- "Anything but white space after ODM's close is 4".
unfoldable pub at_end : List ℕ → List Change → Answer (List Change)
at_end s cs = unless (is_nil (skip s)) 4 >> accepted cs

unfoldable pub go_on : Next → List ℕ → (Progress → Answer (List Change)) → Answer (List Change)
go_on (more p) s rest = rest p
go_on (closed cs) s rest = at_end s cs

-- The tags below ODM and its closing tag, "judged one after another, each wholly before the next"; "a missing closing tag is judged last". The first
-- argument bounds their number.
unfoldable pub tags : ℕ → Machine → Header → Progress → List ℕ → Answer (List Change)
tags zero m h p s = refused 4
tags (suc n) m h p s = next_tag s >>= λ t. judge m h p t.got t.rest >>= λ q. go_on q.got q.rest (λ p'. tags n m h p' q.rest)

-- The file's header and changes.
pub record Contents : Type 0 where
  pub header : Header
  pub changes : List Change

-- Behind the ODM tag nothing is open, changed or shown.
abbrev pub begun : Progress
begun = progress [] [] (shown none)

unfoldable pub after_odm : Bool → Machine → Header → List ℕ → Answer (List Change)
after_odm true m h s = at_end s []
after_odm false m h s = tags (suc (length s)) m h begun s

-- "then one ODM element"
unfoldable pub from_first : Machine → Tag → List ℕ → Answer Contents
from_first m (closes n) s = refused 4
from_first m (opens n as' self) s =
    open_odm m n as' >>= λ h. after_odm self m h s >>= λ cs. accepted record { header = h; changes = cs }

unfoldable pub contents : Machine → List ℕ → Answer Contents
contents m s = next_tag (body s) >>= λ t. from_first m t.got t.rest

-- The machine with one more standing file.
unfoldable pub with_file : Machine → Contents → Machine
with_file m c = with_files m (m.files ++ record { oid = c.header.oid; date = c.header.date; changes = c.changes } ∷ [])

-- "Import (store, file): count is changes added."
unfoldable pub import_file : Machine → List ℕ → Answer Accepted
import_file m s =
    unless (leb (length s) file_most) 3
    >> contents m s >>= λ c. accepted record { count = length c.changes; machine = with_file m c }

-- "Checks 1, 2, 3, then the file."
unfoldable pub import_call : Buffers → List ℕ → Outcome
import_call b s = outcome b (opened b >>= λ m. import_file m s)
