-- Tests of a byte in a tag, by its class or by the bytes themselves; and the loop over a value's entities.
use mathlib.Core.Path.{◌≡◌, refl, sym, ◌∙◌}
use mathlib.Core.Bool.{Bool, true, false, not, ◌||◌}
use mathlib.Core.List.{List}
use mathlib.Core.Option.{Option, none, some}
use Prim.Native.Nat.{ℕ, ◌+◌, ◌≤◌, ◌<◌}
use native.Mathlib.Omega.{arith}
use lib.Dec.{eqb, leb}
use lib.ListN.{length, get_or, drop}
use borrow.Author.Tests.{eqb-true, eq-eqb, ne_eqb, lt-leb, le-leb}
use Rattle.names.specs.Bytes.{ch}
use Rattle.names.specs.Class.{class_of, is_letter, is_digit, is_markup, is_value_byte}
use Rattle.names.specs.Pick.{◌and◌}
use Rattle.names.specs.Text.{piece_at, in_front, decode_from, decode, in_value}
use Rattle.names.specs.code.Decoding.{piece_of}
use Rattle.std.specs.Prelude.{Some, None}
use Rattle.std.specs.Prelude as code
use Rattle.names.proofs.ClassLaws.{byte-rules, agree, agreed}
use Rattle.names.proofs.Decode.{piece_byte, decode_stray, decode_piece, piece_inside, behind-fits, behind-less}
use Rattle.names.proofs.Tests.{at-below, implies, implied}
use Rattle.names.proofs.Walk.{drop_past}
use Rattle.reader.specs.Tag.{is_tag_byte, is_quote}
use Rattle.reader.specs.code.Places.{is_some}

-- Letters, digits and colons, by the class k of the byte.
pub letter_low : (b : ℕ) → b < ch "A" → false ≡ is_letter b
unfolding is_letter
letter_low b h = let k : b < 97 = omega arith in rw (lt-leb 65 b h, lt-leb 97 b k)

module _ (b k : ℕ) (h : b < 256) (e : k ≡ class_of b) where
  pub letter_class : ch "A" ≤ b → eqb k 2 ≡ is_letter b
  unfolding byte-rules
  letter_class l =
      rw e
      (agreed (eqb (class_of b) 2) (is_letter b)
      (implied (leb 65 b) _ (at-below 256 (λ c. implies (leb 65 c) (agree (eqb (class_of c) 2) (is_letter c))) refl b h) (le-leb 65 b l)))

  pub tag_class : (b ≡ ch ":" → ⊥) → eqb k 2 ≡ is_tag_byte b
  unfolding byte-rules is_tag_byte
  tag_class n =
      rw e
      (agreed (eqb (class_of b) 2) (is_tag_byte b)
      (implied (not (eqb b 58)) _ (at-below 256 (λ c. implies (not (eqb c 58)) (agree (eqb (class_of c) 2) (is_tag_byte c))) refl b h) (rw (ne_eqb b 58 n))))

pub tag_colon : (b : ℕ) → b ≡ ch ":" → eqb b (ch ":") ≡ is_tag_byte b
unfolding is_tag_byte is_letter is_digit
tag_colon b e = rw e

pub letter_tag : (b : ℕ) → is_letter b ≡ true → is_tag_byte b ≡ true
unfolding is_tag_byte
letter_tag b e = rw e

pub letter_below : (b : ℕ) → b < ch "A" → leb (ch "A") b ≡ is_letter b
letter_below b h = rw (lt-leb (ch "A") b h) (letter_low b h)

pub ruleset letter_bytes = (letter_below, letter_class)

pub ruleset tag_bytes = (tag_class, tag_colon)

-- Quotes.
pub quote_told : (q : ℕ) (t : Bool) → t ≡ is_quote q → t ≡ true → is_markup q ≡ true
unfolding is_quote
quote_told q t e f = go (eqb q (ch "\"")) refl (sym e ∙ f)
  where
    go : (x : Bool) → eqb q (ch "\"") ≡ x → (x || eqb q (ch "'")) ≡ true → is_markup q ≡ true
    go true y z = rw (eqb-true q (ch "\"") y) (unfold is_markup in refl)
    go false y z = rw (eqb-true q (ch "'") z) (unfold is_markup in refl)

-- Bytes between two quotes q.
module _ (q b : ℕ) where
  closed_by : (x y : Bool) → (x and y and false) ≡ false
  unfolding ◌and◌
  closed_by true true = refl
  closed_by true false = refl
  closed_by false y = refl

  pub value_own : b ≡ q → false ≡ in_value q b
  unfolding in_value
  value_own e = rw (eq-eqb b q e) (sym (closed_by (is_value_byte b) (not (eqb b (ch "<")))))

  closed-less : (x y : Bool) → (x and false and y) ≡ false
  unfolding ◌and◌
  closed-less true y = refl
  closed-less false y = refl

  pub value-less : b ≡ ch "<" → false ≡ in_value q b
  unfolding in_value
  value-less e = rw (eq-eqb b (ch "<") e) (sym (closed-less (is_value_byte b) (not (eqb b q))))

  open_and : (x : Bool) → (x and true and true) ≡ x
  unfolding ◌and◌
  open_and true = refl
  open_and false = refl

  pub value-byte : (t : Bool) → t ≡ is_value_byte b → (b ≡ q → ⊥) → (b ≡ ch "<" → ⊥) → t ≡ in_value q b
  unfolding in_value
  value-byte t e m n = rw (ne_eqb b q m, ne_eqb b (ch "<") n) (e ∙ sym (open_and (is_value_byte b)))

pub ruleset value_bytes = (value_own, value-less, value-byte)

-- Entities: the loop's invariant is `is_some (decode s) ≡ is_some (decode (drop i s))`.
pub some_front : (c : ℕ) (o : Option (List ℕ)) → is_some (in_front c o) ≡ is_some o
unfolding is_some in_front
some_front c none = refl
some_front c (some v) = refl

module _ (s : List ℕ) (i : ℕ) (inv : is_some (decode s) ≡ is_some (decode (drop i s))) where
  pub fine_end : length s ≤ i → true ≡ is_some (decode s)
  unfolding decode decode_from is_some
  fine_end h = sym (inv ∙ rw (drop_past s i h))

  pub fine-byte : i < length s → (get_or s i 0 ≡ ch "&" → ⊥) → is_some (decode s) ≡ is_some (decode (drop (i + 1) s))
  fine-byte h n = inv ∙ rw (decode_piece s i h (Some (get_or s i 0, 1)) (piece_byte s i n) (get_or s i 0) 1 refl) (some_front _ (decode (drop (i + 1) s)))

  module _ (h : i < length s) (r : code.Option (ℕ × ℕ)) (found : r ≡ piece_of (piece_at (get_or s i 0) (drop (i + 1) s))) where
    pub fine_stray : r ≡ None → false ≡ is_some (decode s)
    unfolding is_some
    fine_stray e = sym (inv ∙ rw (decode_stray s i h r found e))

    pub fine_piece : (b k : ℕ) → r ≡ Some (b, k) → is_some (decode s) ≡ is_some (decode (drop (i + k) s))
    fine_piece b k e = inv ∙ rw (decode_piece s i h r found b k e) (some_front b (decode (drop (i + k) s)))

    pub piece_within : (b k : ℕ) → r ≡ Some (b, k) → i + k ≤ length s
    piece_within b k e = (piece_inside s i h r found b k e).1

pub ruleset fine-loop = (fine_end, fine-byte, fine_stray, fine_piece, piece_within, behind-fits, behind-less)
