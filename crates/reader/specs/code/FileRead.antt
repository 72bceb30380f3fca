-- What reading a whole file says, with the buffers that it leaves, and what settles it.
use Rattle.std.specs.Prelude.{◌≡◌, true, List, ℕ, ◌<◌, length, Result, IfOk}
use Rattle.store.specs.Calls.{Accepted}
use Rattle.store.specs.Machine.{Filed, is_filed, files_most}
use Rattle.store.specs.code.With.{filing}
use Rattle.reader.specs.code.Places.{part}
use Rattle.reader.specs.Judge.{Header}
use Rattle.reader.specs.Import.{Contents, contents}
use Rattle.store.specs.code.Pending.{machine_of, added_at, Loaded}
use Rattle.reader.specs.code.Answered.{said_as}
use Rattle.reader.specs.code.OdmTag.{Sited}
use Rattle.store.specs.declared.answer.Refusal.{Refusal}
use Rattle.store.specs.declared.pending.Pending.{Pending}
use Rattle.reader.specs.declared.odm.HeaderPlaces.{HeaderPlaces}

-- The header by its places, and what the file says.
abbrev pub header_at : List ℕ → HeaderPlaces → Header
header_at s h = record { oid = part s h.oid h.oid_end; date = part s h.date h.date_end; snapshot = h.snapshot }

abbrev pub contents_at : List ℕ → List ℕ → List ℕ → Pending → HeaderPlaces → Contents
contents_at ns bs s t h = record { header = header_at s h; changes = added_at ns bs t.changes }

-- The file to keep, and what the call then names and leaves.
abbrev pub filed_at : List ℕ → List ℕ → List ℕ → Pending → HeaderPlaces → Filed
filed_at ns bs s t h = record { oid = part s h.oid h.oid_end; date = part s h.date h.date_end; changes = added_at ns bs t.changes }

abbrev pub taken_at : List ℕ → List ℕ → List ℕ → Pending → HeaderPlaces → Accepted
taken_at ns bs s t h = record { count = length (added_at ns bs t.changes); machine = filing (machine_of ns bs) (filed_at ns bs s t h) }

-- The file was read to its end or to the first fault.
pub record FileTo (ns bs s ns' bs' : List ℕ) (t' : Pending) (r : Result HeaderPlaces Refusal) : Type 0 where
  pub is : said_as (contents_at ns' bs' s t') r ≡ contents (machine_of ns bs) s
  pub machine : machine_of ns' bs' ≡ machine_of ns bs
  pub loaded : Loaded ns' bs' t'
  pub sited : IfOk r (λ h. Sited s h)

-- It may be filed: it is of its form, and there is room for it.
pub record Ready (ns bs s : List ℕ) (t : Pending) (h : HeaderPlaces) : Type 0 where
  pub loaded : Loaded ns bs t
  pub sited : Sited s h
  pub room : length (machine_of ns bs).files < files_most
  pub formed : is_filed (filed_at ns bs s t h) ≡ true
