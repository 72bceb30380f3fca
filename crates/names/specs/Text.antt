-- Written values: the bytes that may stand in one, decoding its five entities, and the writer's escape.
use Rattle.std.specs.Prelude.{Bool, not, List, [], ◌∷◌, ◌++◌, ℕ, zero, suc, ◌-◌, eqb, length}
use Rattle.std.proofs.Math.Option.{Option, none, some}
use Rattle.names.specs.Bytes.{bytes, ch}
use Rattle.names.specs.Class.{is_value_byte}
use Rattle.names.specs.Order.{begins}
use Rattle.names.specs.Pick.{pick, ◌and◌}

-- "hold bytes 32 to 126 except `<` and their own quote": c may stand between two quotes q.
unfoldable pub in_value : ℕ → ℕ → Bool
in_value q c = is_value_byte c and not (eqb c (ch "<")) and not (eqb c q)

-- How a byte is written in a value.
pub record Written : Type 0 where
  pub text : List ℕ
  pub byte : ℕ

abbrev pub written : List ℕ → ℕ → Written
written t b = record { text = t; byte = b }

-- "`& < > "` are escaped in values."
unfoldable pub escapes : List Written
escapes =
    written (bytes "&amp;") (ch "&") ∷ written (bytes "&lt;") (ch "<") ∷ written (bytes "&gt;") (ch ">") ∷ written (bytes "&quot;") (ch "\"") ∷ []

-- "with `&lt; &gt; &amp; &quot; &apos;` decoded"
unfoldable pub entities : List Written
entities = written (bytes "&apos;") (ch "'") ∷ escapes

-- The one of them that stands at the front of a text.
unfoldable pub first_of : List Written → List ℕ → Option Written
first_of [] s = none
first_of (e ∷ es) s = pick (begins eqb e.text s) (some e) (first_of es s)

-- What the byte c, with s behind it, is the front of: an entity where it is an `&` ("and no other `&`"), else the byte itself.
unfoldable pub piece_at : ℕ → List ℕ → Option Written
piece_at c s = pick (eqb c (ch "&")) (first_of entities (c ∷ s)) (some (written (c ∷ []) c))

unfoldable pub in_front : ℕ → Option (List ℕ) → Option (List ℕ)
in_front c none = none
in_front c (some s) = some (c ∷ s)

-- A piece decoded, and what follows it; `rest n` is the text behind its first byte, decoded from its n-th byte on.
unfoldable pub decoded_by : Option Written → (ℕ → Option (List ℕ)) → Option (List ℕ)
decoded_by none rest = none
decoded_by (some w) rest = in_front w.byte (rest (length w.text - 1))

unfoldable pub decode_from : ℕ → List ℕ → Option (List ℕ)
decode_from n [] = some []
decode_from (suc n) (c ∷ s) = decode_from n s
decode_from zero (c ∷ s) = decoded_by (piece_at c s) (λ n. decode_from n s)

-- The bytes that a written value stands for; none where an `&` begins none of the five.
unfoldable pub decode : List ℕ → Option (List ℕ)
decode s = decode_from 0 s

-- How the writer writes a byte, and a value.
unfoldable pub escape_by : List Written → ℕ → List ℕ
escape_by [] c = c ∷ []
escape_by (e ∷ es) c = pick (eqb c e.byte) e.text (escape_by es c)

unfoldable pub escape : List ℕ → List ℕ
escape [] = []
escape (c ∷ s) = escape_by escapes c ++ escape s
