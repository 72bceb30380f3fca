-- What the reader's one pass over a tag found, and what a step over a tag says of the file.
use Rattle.std.specs.Prelude.{Option as Maybe, is_some, IfSome, IfNone, ◌≡◌, true, false, not, List, [], ◌∷◌, ◌++◌, ℕ, ◌≤◌, ◌<◌, eqb, length, get_or, drop, replicate}
use Rattle.std.proofs.Math.Option.{Option, none}
use Rattle.names.specs.Pick.{pick}
use Rattle.names.specs.Text.{decode}
use Rattle.store.specs.Answer.{Answer, refused, accepted}
use Rattle.reader.specs.Tag.{Read, read, Attr, Tag, opens, closes, has, none_twice}
use Rattle.reader.specs.Element.{element_at, attribute_at, get, known}
use Rattle.reader.specs.code.ElementNames.{row_here}
use Rattle.reader.specs.code.Places.{part, listed}
use Rattle.reader.specs.declared.attributes.Listing.{Listing}
use Rattle.reader.specs.declared.cursor.TagRead.{TagRead}

-- The value of the attribute of a number: its stretch decoded; a start of 0 says that it is absent.
unfoldable pub attribute_value : List ℕ → List ℕ → List ℕ → ℕ → Option (List ℕ)
attribute_value s starts ends j = pick (eqb (get_or starts j 0) 0) none (decode (part s (get_or starts j 0) (get_or ends j 0)))

-- The stretches of the values of an element's attributes among those given.
pub record Holds (s : List ℕ) (e : ℕ) (l : List Attr) (starts ends : List ℕ) : Type 0 where
  pub values : (j : ℕ) → j < 8 → get (attribute_at e j) l ≡ attribute_value s starts ends j
  pub there : (j : ℕ) → j < 8 → has (attribute_at e j) l ≡ not (eqb (get_or starts j 0) 0)
  pub order : (j : ℕ) → j < 8 → get_or starts j 0 ≤ get_or ends j 0
  pub inside : (j : ℕ) → j < 8 → get_or ends j 0 ≤ length s
  pub starts_size : length starts ≡ 8
  pub ends-size : length ends ≡ 8

-- The number of an attribute whose number in the row is k: k where the row has it and none of it was found (start 0).
pub record Free (k : ℕ) (starts : List ℕ) (r : Maybe ℕ) : Type 0 where
  pub own : IfSome r (λ j. (j ≡ k) × (j < 8) × (get_or starts j 0 ≡ 0))
  pub taken : IfNone r (k < 8 → get_or starts k 0 ≡ 0 → ⊥)

-- The places of the first four attributes of a row, and of no other.
abbrev pub first_of : ℕ → ℕ → ℕ → ℕ → List ℕ
first_of a b c d = a ∷ b ∷ c ∷ d ∷ 0 ∷ 0 ∷ 0 ∷ 0 ∷ []

abbrev pub listing_of : List ℕ → List ℕ → ℕ → ℕ → Listing
listing_of starts ends extra end =
    record { found = record { starts = starts; ends = ends; unknown = not (eqb extra 0) }; extra = extra; end = end }

-- The pass: the attributes before i, where none of them stands twice their values, and how many were not kept. From n on none of the element's own was met.
pub record ListedTo (s : List ℕ) (at element i n : ℕ) (starts ends : List ℕ) (extra : ℕ) : Type 0 where
  pub got : List Attr
  pub left : listed (drop at s) ≡ read (got ++ (listed (drop i s)).got) (listed (drop i s)).rest
  pub holds : none_twice got ≡ true → Holds s element got starts ends
  pub knows : none_twice got ≡ true → known (element_at element).attributes got ≡ eqb extra 0
  pub once : extra ≡ 0 → none_twice got ≡ true
  pub free : (j : ℕ) → n ≤ j → j < 8 → get_or starts j 0 ≡ 0
  pub low : at ≤ i
  pub high : i ≤ length s
  pub few : extra ≤ i

-- The attributes from `at` on, all listed.
pub record AllListed (s : List ℕ) (at element : ℕ) (l : Listing) : Type 0 where
  pub left : drop l.end s ≡ (listed (drop at s)).rest
  pub holds : Holds s element (listed (drop at s)).got l.found.starts l.found.ends
  pub known : known (element_at element).attributes (listed (drop at s)).got ≡ not l.found.unknown

-- They were, unless one of them stands twice; where all were kept, none does.
pub record Lists (s : List ℕ) (at element : ℕ) (l : Listing) : Type 0 where
  pub once : l.extra ≡ 0 → none_twice (listed (drop at s)).got ≡ true
  pub whole : none_twice (listed (drop at s)).got ≡ true → AllListed s at element l
  pub low : at ≤ l.end
  pub high : l.end ≤ length s

-- The same, where it is known of all of them that none stands twice; none is told where one does.
pub record Once (s : List ℕ) (at element : ℕ) (r : Maybe Listing) : Type 0 where
  pub told : is_some r ≡ none_twice (listed (drop at s)).got
  pub whole : IfSome r (λ l. AllListed s at element l)
  pub within : IfSome r (λ l. (at ≤ l.end) × (l.end ≤ length s))

-- The attributes of the tag that was read.
abbrev pub attrs_of : List ℕ → TagRead → List Attr
attrs_of s t = (listed (drop t.name_end s)).got

-- An opening tag, self-closing (kind 1) or not (kind 0), with the values of the attributes in its element's row.
pub record OpeningRead (s : List ℕ) (level : ℕ) (o : Answer (Read Tag)) (t : TagRead) : Type 0 where
  pub is : o ≡ accepted (read (opens (part s t.name t.name_end) (attrs_of s t) (eqb t.kind 1)) (drop t.next.at s))
  pub row : t.element ≡ row_here level (part s t.name t.name_end)
  pub holds : Holds s t.element (attrs_of s t) t.found.starts t.found.ends
  pub known : known (element_at t.element).attributes (attrs_of s t) ≡ not t.found.unknown

-- What the code read where o is what stands there; a tag's name begins at `from` or later. Kind: 0 opens, 1 opens and closes, 2 closes, 3 broken.
pub record Tagged (s : List ℕ) (level from : ℕ) (o : Answer (Read Tag)) (t : TagRead) : Type 0 where
  pub broken : t.kind ≡ 3 → o ≡ refused 4
  pub closing : t.kind ≡ 2 → o ≡ accepted (read (closes (part s t.name t.name_end)) (drop t.next.at s))
  pub opening : t.kind < 2 → OpeningRead s level o t
  pub low : t.kind < 3 → from ≤ t.name
  pub named : t.name ≤ t.name_end
  pub behind : t.name_end ≤ t.next.at
  pub high : t.next.at ≤ length s
  pub kinds : t.kind ≤ 3

-- A tag without attributes, or none.
abbrev pub plain_tag : ℕ → ℕ → ℕ → ℕ → TagRead
plain_tag kind name name-end next =
    record {
      name = name;
      name_end = name-end;
      next = record { at = next };
      element = 0;
      found = record { starts = replicate 8 0; ends = replicate 8 0; unknown = false };
      kind = kind;
    }
