-- What the reader's places in a file say: a value is handed on as the stretch of the file that holds it.
use Rattle.std.specs.Prelude.{◌≡◌, Bool, true, false, List, [], ◌∷◌, ℕ, zero, suc, ◌+◌, ◌-◌, ◌≤◌, ◌<◌, length, take, drop}
use Rattle.std.specs.Prelude.{Option as Maybe, Some, None, IfSome}
use Rattle.std.proofs.Math.Option.{Option, none, some}
use Rattle.names.specs.Bytes.{bytes}
use Rattle.names.specs.Class.{is_white}
use Rattle.names.specs.Scan.{front}
use Rattle.names.specs.Text.{decode}
use Rattle.store.specs.Answer.{Answer, refused, accepted, ◌>>◌, unless}
use Rattle.reader.specs.Tag.{Read, read, Attr, attr, strip, first_is, skip, is_tag_byte, up_to, attribute, Attributes}
use Rattle.reader.specs.Element.{or_else}
use Rattle.reader.specs.declared.tag.AttributePlaces.{AttributePlaces}
use Rattle.reader.specs.declared.tag.TagEnd.{TagEnd}

-- The bytes of s from a up to b, and what they stand for.
abbrev pub part : List ℕ → ℕ → ℕ → List ℕ
part s a b = take (b - a) (drop a s)

unfoldable pub is_some : {A : Type 0} → Option A → Bool
is_some none = false
is_some (some a) = true

abbrev pub decoded : List ℕ → ℕ → ℕ → List ℕ
decoded s a b = or_else [] (decode (part s a b))

-- A place behind a piece that begins at `at`; none where there is no such piece.
unfoldable pub rest_of : List ℕ → Maybe ℕ → Option (List ℕ)
rest_of s (Some r) = some (drop r s)
rest_of s None = none

pub record Behind (s : List ℕ) (at : ℕ) (r : Maybe ℕ) (o : Option (List ℕ)) : Type 0 where
  pub is : rest_of s r ≡ o
  pub within : IfSome r (λ r. (at < r) × (r ≤ length s))

-- Likewise behind a name,
unfoldable pub name_to : List ℕ → ℕ → Maybe ℕ → Answer (Read (List ℕ))
name_to s at (Some r) = accepted (read (part s at r) (drop r s))
name_to s at None = refused 4

pub record NameEnd (s : List ℕ) (at : ℕ) (r : Maybe ℕ) (o : Answer (Read (List ℕ))) : Type 0 where
  pub is : name_to s at r ≡ o
  pub within : IfSome r (λ r. (at < r) × (r ≤ length s))

-- behind `=` and the white space around it,
unfoldable pub skipped : Option (List ℕ) → Option (List ℕ)
skipped none = none
skipped (some t) = some (skip t)

unfoldable pub equals : List ℕ → Option (List ℕ)
equals s = skipped (strip (bytes "=") (skip s))

-- and behind a value whose opening quote stands at `at`.
unfoldable pub value_to : List ℕ → ℕ → Maybe ℕ → Answer (Read (List ℕ))
value_to s at (Some r) = accepted (read (decoded s (at + 1) (r - 1)) (drop r s))
value_to s at None = refused 4

pub record ValueEnd (s : List ℕ) (at : ℕ) (r : Maybe ℕ) (o : Answer (Read (List ℕ))) : Type 0 where
  pub is : value_to s at r ≡ o
  pub within : IfSome r (λ r. (at + 2 ≤ r) × (r ≤ length s))
  pub fine : IfSome r (λ r. is_some (decode (part s (at + 1) (r - 1))) ≡ true)

-- The place of the byte q that ends the written text from `at` on.
unfoldable pub closed_at : List ℕ → ℕ → Maybe ℕ → Answer (Read (List ℕ))
closed_at s at (Some r) = accepted (read (decoded s at r) (drop (r + 1) s))
closed_at s at None = refused 4

pub record ValueTo (q : ℕ) (s : List ℕ) (at : ℕ) (r : Maybe ℕ) : Type 0 where
  pub is : closed_at s at r ≡ up_to q (drop at s)
  pub within : IfSome r (λ r. (at ≤ r) × (r < length s))
  pub fine : IfSome r (λ r. is_some (decode (part s at r)) ≡ true)

-- White space and an attribute.
unfoldable pub spaced : List ℕ → Answer (Read Attr)
spaced s = unless (first_is is_white s) 4 >> attribute (skip s)

-- The attributes that stand one after another, and what follows them. The first argument bounds their number.
unfoldable pub listed_by : Answer (Read Attr) → List ℕ → (List ℕ → Read (List Attr)) → Read (List Attr)
listed_by (refused n) s more = read [] s
listed_by (accepted a) s more = read (a.got ∷ (more a.rest).got) (more a.rest).rest

unfoldable pub listed_in : ℕ → List ℕ → Read (List Attr)
listed_in zero s = read [] s
listed_in (suc n) s = listed_by (spaced s) s (λ t. listed_in n t)

unfoldable pub listed : List ℕ → Read (List Attr)
listed s = listed_in (suc (length s)) s

abbrev pub attr_of : List ℕ → AttributePlaces → Attr
attr_of s a = attr (part s a.name a.name_end) (decoded s a.value a.value_end)

abbrev pub one_means : List ℕ → Maybe AttributePlaces → Answer (Read Attr)
one_means s (Some a) = accepted (read (attr_of s a) (drop a.next s))
one_means s None = refused 4

-- The name that begins at a place.
unfoldable pub name_at : List ℕ → ℕ → List ℕ
name_at s p = front is_tag_byte (drop p s)

pub record Inside (s : List ℕ) (at : ℕ) (a : AttributePlaces) : Type 0 where
  pub low : at < a.name
  pub named : a.name < a.name_end
  pub equal : a.name_end + 1 < a.value
  pub valued : a.value ≤ a.value_end
  pub behind : a.value_end < a.next
  pub high : a.next ≤ length s
  pub fine : is_some (decode (part s a.value a.value_end)) ≡ true
  pub run : name_at s a.name ≡ part s a.name a.name_end

abbrev pub OneWithin : List ℕ → ℕ → Maybe AttributePlaces → Type 0
OneWithin s at r = IfSome r (λ a. Inside s at a)

-- The end of an opening tag.
abbrev pub end_means : List ℕ → Maybe TagEnd → Option (Read Attributes)
end_means s (Some e) = some (read record { attrs = []; self = e.whole } (drop e.next s))
end_means s None = none

abbrev pub EndWithin : ℕ → ℕ → Maybe TagEnd → Type 0
EndWithin at n r = IfSome r (λ e. (at ≤ e.next) × (e.next ≤ n))
