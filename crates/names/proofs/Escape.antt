-- The writer's escape: it is read back, it may stand between double quotes, it is at most six times as long, and it leaves names as they are.
use mathlib.Core.Path.{◌≡◌, refl, ◌∙◌, ap}
use mathlib.Core.Bool.{Bool, true, false, not, false≢true}
use mathlib.Core.List.{List, [], ◌∷◌, ◌++◌}
use mathlib.Core.Option.{some}
use Prim.Native.Nat.{ℕ, ◌*◌, ◌≤◌}
use native.Mathlib.Omega.{arith}
use lib.Dec.{eqb, lit≤}
use lib.ListN.{length, length-append}
use borrow.Author.Tests.{eqb-true, not-true}
use Rattle.names.specs.Bytes.{bytes, ch, all}
use Rattle.names.specs.Class.{is_value_byte, is_name_byte, is_letter, is_digit, is_name_mark}
use Rattle.names.specs.Order.{begins}
use Rattle.names.specs.Pick.{pick, ◌and◌}
use Rattle.names.specs.Text.{Written, in_value, escapes, entities, first_of, piece_at, in_front, decoded_by, decode_from, decode, escape_by, escape}
use Rattle.names.proofs.Tests.{and_l, and_r, and_i, all_append}

-- A byte that none of them writes.
abbrev unwritten : List Written → ℕ → Bool
unwritten es c = all (λ e. not (eqb c e.byte)) es

-- What holds of each escape, and of a byte that has none and stands for itself, holds of every byte as it is written.
module _ (P : ℕ → List ℕ → Type 0) where
  abbrev Each : List Written → Type 0
  Each [] = Unit {0}
  Each (e ∷ es) = P e.byte e.text × Each es

  by_escape : (es : List Written) → Each es → (c : ℕ) → (unwritten es c ≡ true → P c (c ∷ [])) → P c (escape_by es c)
  unfolding escape_by all pick ◌and◌
  by_escape [] h c p = p refl
  by_escape (e ∷ es) h c p = go (by_escape es h.1 c) (eqb c e.byte) refl
    where
      go : ((unwritten es c ≡ true → P c (c ∷ [])) → P c (escape_by es c)) → (b : Bool) → eqb c e.byte ≡ b → P c (pick b e.text (escape_by es c))
      go ih true q = rw (eqb-true c e.byte q) h.0
      go ih false q = ih (λ u. p (rw q u))

  byte-written : P (ch "&") (bytes "&amp;") → P (ch "<") (bytes "&lt;") → P (ch ">") (bytes "&gt;") → P (ch "\"") (bytes "&quot;")
      → ((c : ℕ) → unwritten escapes c ≡ true → P c (c ∷ [])) → (c : ℕ) → P c (escape_by escapes c)
  unfolding escapes
  byte-written amp less more quote plain c = by_escape escapes (amp, (less, (more, (quote, tt)))) c (plain c)

-- It is read back.
decode-byte : (t : List ℕ) (c : ℕ) → decode (escape_by escapes c ++ t) ≡ in_front c (decode t)
unfolding decode decode_from decoded_by piece_at first_of entities escapes begins all pick ◌and◌
decode-byte t = byte-written (λ c w. decode (w ++ t) ≡ in_front c (decode t)) refl refl refl refl (λ c u. rw (not-true (eqb c (ch "&")) (and_l _ _ u)))

pub decode-escape : (v : List ℕ) → decode (escape v) ≡ some v
unfolding escape decode decode_from in_front
decode-escape [] = refl
decode-escape (c ∷ v) = decode-byte (escape v) c ∙ ap (in_front c) (decode-escape v)

-- It may stand between double quotes.
byte_in : (c : ℕ) → is_value_byte c ≡ true → all (in_value (ch "\"")) (escape_by escapes c) ≡ true
unfolding escapes all in_value is_value_byte ◌and◌
byte_in =
    byte-written (λ c w. is_value_byte c ≡ true → all (in_value (ch "\"")) w ≡ true) (λ _. refl) (λ _. refl) (λ _. refl) (λ _. refl)
    (λ c u v. search (and_l, and_r, and_i))

pub escape_in : (v : List ℕ) → all is_value_byte v ≡ true → all (in_value (ch "\"")) (escape v) ≡ true
unfolding escape all
escape_in [] e = refl
escape_in (c ∷ v) e = all_append (in_value (ch "\"")) (escape_by escapes c) (escape v) (byte_in c (and_l _ _ e)) (escape_in v (and_r (is_value_byte c) _ e))

-- It is at most six times as long.
byte-short : (c : ℕ) → length (escape_by escapes c) ≤ 6
unfolding escapes
byte-short = byte-written (λ c w. length w ≤ 6) (lit≤ tt) (lit≤ tt) (lit≤ tt) (lit≤ tt) (λ c u. lit≤ tt)

pub escape-short : (v : List ℕ) → length (escape v) ≤ 6 * length v
unfolding escape
escape-short [] = omega arith
escape-short (c ∷ v) = rw length-append (omega (arith, byte-short c, escape-short v))

-- It leaves names as they are.
byte-plain : (c : ℕ) → is_name_byte c ≡ true → escape_by escapes c ≡ c ∷ []
unfolding escapes is_name_byte is_letter is_digit is_name_mark
byte-plain =
    byte-written (λ c w. is_name_byte c ≡ true → w ≡ c ∷ [])
    (λ e. absurd (false≢true e)) (λ e. absurd (false≢true e)) (λ e. absurd (false≢true e)) (λ e. absurd (false≢true e))
    (λ c u e. refl)

pub escape-name : (v : List ℕ) → all is_name_byte v ≡ true → escape v ≡ v
unfolding escape all
escape-name [] e = refl
escape-name (c ∷ v) e = rw (byte-plain c (and_l _ _ e), escape-name v (and_r (is_name_byte c) _ e))
