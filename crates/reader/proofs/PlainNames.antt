-- A name as it is written, with what follows it, is read back.
use mathlib.Core.Path.{◌≡◌, refl, sym, ◌∙◌}
use mathlib.Core.Bool.{Bool, true, false, false≢true}
use mathlib.Core.List.{List, [], ◌∷◌, ◌++◌}
use Prim.Native.Nat.{ℕ, ◌<◌}
use native.Mathlib.Omega.{arith}
use lib.Dec.{eqb, lit<}
use borrow.Author.Tests.{ne_eqb}
use Rattle.names.specs.Bytes.{all}
use Rattle.names.specs.Class.{is_white, is_letter, is_digit}
use Rattle.names.specs.Pick.{pick, ◌and◌}
use Rattle.names.specs.Scan.{after}
use Rattle.names.proofs.Tests.{and_l, and_r}
use Rattle.store.specs.Answer.{accepted, ◌>>=◌, ◌>>◌, unless}
use Rattle.reader.specs.Tag.{read, first_is, skip, is_tag_byte, tag_name}
use Rattle.reader.proofs.Front.{front_at, after-at, first-append}
use Rattle.reader.proofs.TagBytes.{letter_low}

unfoldable pub plain_name : List ℕ → Bool
plain_name n = first_is is_letter n and all is_tag_byte n

pub tag_name-at : (n : List ℕ) (c : ℕ) (k : List ℕ) → plain_name n ≡ true → is_tag_byte c ≡ false → tag_name (n ++ c ∷ k) ≡ accepted (read n (c ∷ k))
unfolding tag_name plain_name unless ◌>>=◌ ◌>>◌
tag_name-at n c k e f =
    rw (
      first-append is_letter n (c ∷ k) (and_l _ _ e),
      front_at is_tag_byte n c k (and_r (first_is is_letter n) _ e) f,
      after-at is_tag_byte n c k (and_r (first_is is_letter n) _ e) f,
    )

-- `=` ends a name, and so does `>`.
pub ends_61 : is_tag_byte 61 ≡ false
unfolding is_tag_byte is_letter is_digit
ends_61 = refl

pub ends_62 : is_tag_byte 62 ≡ false
unfolding is_tag_byte is_letter is_digit
ends_62 = refl

-- A letter is none of the bytes below `A`, so no white space.
low-no_letter : (c d : ℕ) → is_letter c ≡ true → d < 65 → c ≡ d → ⊥
low-no_letter c d e h q = false≢true (letter_low c (omega arith) ∙ e)

letter_not : (c d : ℕ) → is_letter c ≡ true → d < 65 → eqb c d ≡ false
letter_not c d e h = ne_eqb c d (low-no_letter c d e h)

pub not_letter : (c d : ℕ) → is_letter c ≡ true → d < 65 → eqb d c ≡ false
not_letter c d e h = ne_eqb d c (λ q. low-no_letter c d e h (sym q))

letter_not_white : (c : ℕ) → is_letter c ≡ true → is_white c ≡ false
unfolding is_white
letter_not_white c e = rw (letter_not c 9 e (lit< tt), letter_not c 10 e (lit< tt), letter_not c 13 e (lit< tt), letter_not c 32 e (lit< tt))

pub skip-name : (n t : List ℕ) → plain_name n ≡ true → skip (n ++ t) ≡ n ++ t
unfolding plain_name first_is skip after pick
skip-name [] t e = absurd (false≢true (and_l _ _ e))
skip-name (c ∷ n) t e = rw (letter_not_white c (and_l _ _ e))
