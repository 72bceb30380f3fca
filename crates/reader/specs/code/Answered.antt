-- What the code answers about a tag, in the definitions' words.
use Rattle.std.specs.Prelude.{◌≡◌, not, List, ℕ, ◌≤◌, ◌<◌, eqb, length, get_or, Result, Ok, Err}
use Rattle.std.proofs.Math.Option.{Option, none, some}
use Rattle.names.specs.Pick.{pick}
use Rattle.store.specs.Answer.{Answer, refused, accepted}
use Rattle.store.specs.code.Refusals.{number_of}
use Rattle.store.specs.declared.answer.Refusal.{Refusal}
use Rattle.reader.specs.Tag.{Tag, opens, closes}
use Rattle.reader.specs.Element.{element_at, known}
use Rattle.reader.specs.code.ElementNames.{row_here}
use Rattle.reader.specs.code.Places.{part}
use Rattle.reader.specs.code.Found.{Holds, attrs_of}
use Rattle.reader.specs.declared.cursor.TagRead.{TagRead}

-- A result, by what its value stands for; an error is refused with its number.
abbrev pub said_as : {A B : Type 0} → (A → B) → Result A Refusal → Answer B
said_as f (Ok a) = accepted (f a)
said_as f (Err r) = refused (number_of r)

abbrev pub name_of : List ℕ → TagRead → List ℕ
name_of s t = part s t.name t.name_end

-- The attributes of an opening tag, as they were found by the row of its element.
pub record Attributed (s : List ℕ) (t : TagRead) : Type 0 where
  pub holds : Holds s t.element (attrs_of s t) t.found.starts t.found.ends
  pub known : known (element_at t.element).attributes (attrs_of s t) ≡ not t.found.unknown
  pub named : t.name ≤ t.name_end
  pub behind : t.name_end ≤ t.next.at
  pub high : t.next.at ≤ length s

-- The tag that was read, where it is not broken: its kind is 2 where it closes, 1 where it is self-closing.
unfoldable pub tag_of : List ℕ → TagRead → Tag
tag_of s t = pick (eqb t.kind 2) (closes (name_of s t)) (opens (name_of s t) (attrs_of s t) (eqb t.kind 1))

-- What is known of it where so many elements are open.
pub record Readable (s : List ℕ) (level : ℕ) (t : TagRead) : Type 0 where
  pub kinds : t.kind ≤ 2
  pub attributed : t.kind < 2 → Attributed s t
  pub row : t.kind < 2 → t.element ≡ row_here level (name_of s t)
  pub named : t.name ≤ t.name_end
  pub inside : t.name_end ≤ length s
  pub high : t.next.at ≤ length s

-- A value that has a form in which no byte is written as an entity: the stretch itself. A start of 0 says that it is absent.
unfoldable pub plain_at : List ℕ → TagRead → ℕ → Option (List ℕ)
plain_at s t j = pick (eqb (get_or t.found.starts j 0) 0) none (some (part s (get_or t.found.starts j 0) (get_or t.found.ends j 0)))
