-- What the ODM tag says of the file, by places.
use Rattle.std.specs.Prelude.{◌≡◌, List, ℕ, ◌≤◌, eqb, length, get_or, Result, IfOk}
use Rattle.std.proofs.Math.Option.{none, some}
use Rattle.names.specs.Bytes.{bytes}
use Rattle.names.specs.Pick.{pick}
use Rattle.store.specs.Answer.{accepted}
use Rattle.reader.specs.Element.{get, well_placed}
use Rattle.reader.specs.code.Places.{part}
use Rattle.reader.specs.code.Found.{attrs_of}
use Rattle.reader.specs.Judge.{header_of, open_odm}
use Rattle.reader.specs.declared.cursor.TagRead.{TagRead}
use Rattle.store.specs.code.Pending.{machine_of}
use Rattle.store.specs.declared.answer.Refusal.{Refusal}
use Rattle.reader.specs.code.Answered.{said_as, name_of, plain_at}
use Rattle.reader.specs.declared.odm.HeaderPlaces.{HeaderPlaces}

-- FileOID and date are stretches of the file.
pub record Sited (s : List ℕ) (h : HeaderPlaces) : Type 0 where
  pub oid-order : h.oid ≤ h.oid_end
  pub oid-inside : h.oid_end ≤ length s
  pub date-order : h.date ≤ h.date_end
  pub date-inside : h.date_end ≤ length s

-- The stretch of the attribute of a number, in the file.
abbrev pub stretch_at : List ℕ → TagRead → ℕ → List ℕ
stretch_at s t j = part s (get_or t.found.starts j 0) (get_or t.found.ends j 0)

pub record StretchInside (s : List ℕ) (t : TagRead) (j : ℕ) : Type 0 where
  pub order : get_or t.found.starts j 0 ≤ get_or t.found.ends j 0
  pub inside : get_or t.found.ends j 0 ≤ length s

-- An ODM tag that is well placed: the values that the series asks of are stretches of the file, the required ones are there.
pub record OdmRead (s : List ℕ) (t : TagRead) : Type 0 where
  pub placed : well_placed none 0 (name_of s t) (attrs_of s t) ≡ accepted t.element
  pub file_type : get (bytes "FileType") (attrs_of s t) ≡ some (stretch_at s t 1)
  pub oid : get (bytes "FileOID") (attrs_of s t) ≡ some (stretch_at s t 2)
  pub created : get (bytes "CreationDateTime") (attrs_of s t) ≡ some (stretch_at s t 3)
  pub prior : get (bytes "PriorFileOID") (attrs_of s t) ≡ plain_at s t 5
  pub as_of : get (bytes "AsOfDateTime") (attrs_of s t) ≡ plain_at s t 6
  pub at_type : StretchInside s t 1
  pub at-oid : StretchInside s t 2
  pub at-created : StretchInside s t 3
  pub at-prior : StretchInside s t 5
  pub at_as_of : StretchInside s t 6

-- The number of the attribute whose date is kept: AsOfDateTime if it is there.
unfoldable pub date_number : TagRead → ℕ
date_number t = pick (eqb (get_or t.found.starts 6 0) 0) 3 6

-- The header of such a tag, by places.
pub record HeadOf (s : List ℕ) (t : TagRead) (h : HeaderPlaces) : Type 0 where
  pub oid : part s h.oid h.oid_end ≡ (header_of (attrs_of s t)).oid
  pub date : part s h.date h.date_end ≡ (header_of (attrs_of s t)).date
  pub snapshot : h.snapshot ≡ (header_of (attrs_of s t)).snapshot
  pub sited : Sited s h

-- What the judge of the tag answers: a refusal, or the header by places.
pub record Heads (ns bs s : List ℕ) (t : TagRead) (r : Result HeaderPlaces Refusal) : Type 0 where
  pub is : said_as (λ _. header_of (attrs_of s t)) r ≡ open_odm (machine_of ns bs) (name_of s t) (attrs_of s t)
  pub head : IfOk r (λ h. HeadOf s t h)
