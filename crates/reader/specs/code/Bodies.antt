-- The body of a typed item and its closing tag, as the code answers: by places in the file.
use Rattle.std.specs.Prelude.{◌≡◌, Bool, true, false, not, List, [], ◌∷◌, ◌++◌, ℕ, zero, suc, ◌+◌, ◌-◌, ◌≤◌, ◌<◌, eqb, ltb, length, get_or, take, drop, Option as Optional, Some, None, IfSome, Result, IfOk}
use Rattle.std.proofs.Math.Option.{Option, none, some}
use Rattle.names.specs.Bytes.{bytes, ch, all}
use Rattle.names.specs.Class.{is_value_byte}
use Rattle.names.specs.Name.{value_most}
use Rattle.names.specs.Order.{begins}
use Rattle.names.specs.Pick.{pick, ◌and◌}
use Rattle.names.specs.Text.{decode}
use Rattle.store.specs.Answer.{Answer, ◌>>=◌}
use Rattle.store.specs.declared.answer.Refusal.{Refusal}
use Rattle.reader.specs.Tag.{Read, read, tag_behind, cut, closes_by}
use Rattle.reader.specs.code.Places.{part, is_some, decoded}
use Rattle.reader.specs.code.Answered.{said_as}
use Rattle.reader.specs.declared.body.Body.{Body}
use Rattle.reader.specs.declared.cursor.Cursor.{Cursor}
use Rattle.reader.specs.declared.body.Content.{Content}

-- The place r of the first `]]>` from `at` on; the end: there is none.
unfoldable pub cut_at : List ℕ → ℕ → ℕ → Option (Read (List ℕ))
cut_at s at r = pick (ltb r (length s)) (some (read (part s at r) (drop (r + 3) s))) none

pub record CutTo (s : List ℕ) (at r : ℕ) : Type 0 where
  pub is : cut_at s at r ≡ cut (bytes "]]>") (drop at s)
  pub low : at ≤ r
  pub high : r ≤ length s
  pub inside : r < length s → r + 3 ≤ length s

-- No `]]>` begins at the n places from i on.
unfoldable pub endless : List ℕ → ℕ → ℕ → Bool
endless s i zero = true
endless s i (suc n) = not (begins eqb (bytes "]]>") (get_or s i 0 ∷ get_or s (i + 1) 0 ∷ get_or s (i + 2) 0 ∷ [])) and endless s (i + 1) n

-- A text in front of what was cut.
unfoldable pub before : List ℕ → Option (Read (List ℕ)) → Option (Read (List ℕ))
before p none = none
before p (some r) = some (read (p ++ r.got) r.rest)

-- None begins from `at` up to i: the text from `at` on is cut where that from i on is, with the bytes between in front.
pub record Cutting (s : List ℕ) (at i : ℕ) : Type 0 where
  pub left : cut (bytes "]]>") (drop at s) ≡ before (part s at i) (cut (bytes "]]>") (drop i s))
  pub low : at ≤ i
  pub high : i ≤ length s

-- What a body from a up to e stands for: a CDATA section (kind 1) for its bytes, a text for them decoded.
unfoldable pub body_text : List ℕ → ℕ → ℕ → ℕ → List ℕ
body_text s a e kind = pick (eqb kind 1) (part s a e) (decoded s a e)

-- What is known of its bytes.
pub record BodyStretch (s : List ℕ) (a e kind : ℕ) : Type 0 where
  pub order : a ≤ e
  pub inside : e ≤ length s
  pub fine : (kind ≡ 1 → ⊥) → is_some (decode (part s a e)) ≡ true
  pub plain : kind ≡ 1 → all is_value_byte (part s a e) ≡ true

-- Whether it is told to stand for them as they are; a CDATA section always is.
pub record AsWritten (s : List ℕ) (a e kind : ℕ) (r : Bool) : Type 0 where
  pub is : r ≡ true → body_text s a e kind ≡ part s a e
  pub text : r ≡ false → kind ≡ 1 → ⊥

-- A `<` stands before a place.
pub record Marked (s : List ℕ) (at : ℕ) : Type 0 where
  pub low : 1 ≤ at
  pub is : drop (at - 1) s ≡ ch "<" ∷ drop at s

-- A body that was read where o is what stands there, by its places.
abbrev pub body_means : List ℕ → Body → Read (List ℕ)
body_means s b = read (body_text s b.start b.end b.kind) (drop b.next s)

pub record BodyPlaces (s : List ℕ) (at : ℕ) (b : Body) : Type 0 where
  pub stretch : BodyStretch s b.start b.end b.kind
  pub low : at ≤ b.start
  pub behind : b.end ≤ b.next
  pub high : b.next ≤ length s
  pub kinds : b.kind ≤ 1
  pub marked : Marked s b.next

pub record BodyRead (s : List ℕ) (at : ℕ) (o : Answer (Read (List ℕ))) (r : Result Body Refusal) : Type 0 where
  pub is : said_as (body_means s) r ≡ o
  pub places : IfOk r (λ b. BodyPlaces s at b)

-- What follows the closing tag of the element n, from behind its `<` on.
unfoldable pub closed : List ℕ → List ℕ → Answer (List ℕ)
closed n s = tag_behind s >>= λ t. closes_by n t.got t.rest

-- As most files write it, with the very bytes of the name and nothing behind them: the place behind it; none where it was not found so.
pub record PlainlyClosed (s : List ℕ) (at : ℕ) (n : List ℕ) (r : Optional ℕ) : Type 0 where
  pub is : IfSome r (λ r. drop at s ≡ ch "/" ∷ (n ++ ch ">" ∷ drop r s))
  pub within : IfSome r (λ r. (at < r) × (r ≤ length s))

-- That tag as it was read: the place behind it.
pub record ClosingRead (s : List ℕ) (at : ℕ) (o : Answer (List ℕ)) (r : Result Cursor Refusal) : Type 0 where
  pub is : said_as (λ (c : Cursor). drop c.at s) r ≡ o
  pub places : IfOk r (λ c. (at ≤ c.at) × (c.at ≤ length s))

-- Both, from behind an opening tag on.
abbrev pub content_means : List ℕ → Content → Read (List ℕ)
content_means s c = read (body_text s c.start c.end c.kind) (drop c.next.at s)

pub record ContentPlaces (s : List ℕ) (at : ℕ) (c : Content) : Type 0 where
  pub stretch : BodyStretch s c.start c.end c.kind
  pub low : at ≤ c.start
  pub behind : c.end ≤ c.next.at
  pub high : c.next.at ≤ length s
  pub kinds : c.kind ≤ 1

pub record ContentRead (s : List ℕ) (at : ℕ) (o : Answer (Read (List ℕ))) (r : Result Content Refusal) : Type 0 where
  pub is : said_as (content_means s) r ≡ o
  pub places : IfOk r (λ c. ContentPlaces s at c)

-- The first n bytes of out are the text v; or it is longer than a value.
pub record ValueFront (v out : List ℕ) (n : ℕ) : Type 0 where
  pub few : n ≤ value_most
  pub count : n ≡ length v
  pub text : take n out ≡ v

abbrev pub ValueHeld : List ℕ → List ℕ → Optional ℕ → Type 0
ValueHeld v out (Some n) = ValueFront v out n
ValueHeld v out None = value_most < length v
