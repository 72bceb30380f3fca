-- Numbers as texts: what the places at which the code's scans end tell, and the bytes of a number.
use mathlib.Core.Path.{◌≡◌, refl, sym}
use mathlib.Core.Bool.{Bool, true, false, not}
use mathlib.Core.List.{List, [], ◌∷◌}
use Prim.Native.Nat.{ℕ, ◌-◌, ◌≤◌, ◌<◌}
use native.Mathlib.Omega.{arith}
use lib.Dec.{eqb, leb, ltb}
use lib.ListN.{length, get_or, take, drop, length-take, length-drop}
use lib.Seq.{take_all}
use Rattle.std.specs.Option.{unwrap_or}
use Rattle.std.specs.List.{position}
use borrow.Author.Tests.{ne_eqb, eqb-true, le-leb}
use Rattle.names.specs.Bytes.{all, ch}
use Rattle.names.specs.Class.{is_digit, is_name_byte}
use Rattle.names.specs.Number.{is_digits, without, is_fraction, is_number}
use Rattle.names.specs.Pick.{pick, ◌and◌}
use Rattle.names.specs.Scan.{front, after}
use Rattle.names.proofs.ClassLaws.{digit_name, byte-rules}
use Rattle.names.proofs.ScanLaws.{front-after, front-all, run_within, run_front, run_after}
use Rattle.names.proofs.Tests.{and_l, and_r, and_i, all_append, all_implied}

-- What follows a first byte.
behind_first : (c : ℕ) (s : List ℕ) → take (length (c ∷ s) - 1) (drop 1 (c ∷ s)) ≡ s
behind_first c s = take_all (length (c ∷ s) - 1) s (omega arith)

-- A fraction by its first byte.
pub fraction_none : (s : List ℕ) → length s < 1 → is_fraction s ≡ true
unfolding is_fraction
fraction_none [] h = refl
fraction_none (c ∷ s) h = absurd (omega arith)

pub fraction_digits : (s : List ℕ) → 1 ≤ length s → get_or s 0 0 ≡ ch "." → is_fraction s ≡ is_digits (take (length s - 1) (drop 1 s))
unfolding is_fraction ◌and◌
fraction_digits [] h e = absurd (omega arith)
fraction_digits (c ∷ s) h e = rw (e, behind_first c s)

pub fraction_other : (s : List ℕ) → 1 ≤ length s → (get_or s 0 0 ≡ ch "." → ⊥) → is_fraction s ≡ false
unfolding is_fraction ◌and◌
fraction_other [] h n = absurd (omega arith)
fraction_other (c ∷ s) h n = rw (ne_eqb c (ch ".") n)

pub ruleset fraction_tells = (fraction_none, fraction_digits, fraction_other)

-- A sign, another first byte, or none.
pub no_sign : (s : List ℕ) → length s < 1 → without (ch "-") s ≡ s
unfolding without
no_sign [] h = refl
no_sign (c ∷ s) h = absurd (omega arith)

pub past_sign : (s : List ℕ) → 1 ≤ length s → get_or s 0 0 ≡ ch "-" → without (ch "-") s ≡ take (length s - 1) (drop 1 s)
unfolding without pick
past_sign [] h e = absurd (omega arith)
past_sign (c ∷ s) h e = rw (e, behind_first c s)

pub other_sign : (s : List ℕ) → (get_or s 0 0 ≡ ch "-" → ⊥) → without (ch "-") s ≡ s
unfolding without pick
other_sign [] n = refl
other_sign (c ∷ s) n = rw (ne_eqb (ch "-") c (λ e. n (sym e)))

pub ruleset sign_tells = (no_sign, past_sign, other_sign)

-- A float by its first n bytes, which are those of its digits.
module _ (s : List ℕ) (n : ℕ) (is : n ≡ unwrap_or (position (λ c. not (is_digit c)) s) (length s)) where
  pub float_none : n ≤ 0 → ltb 0 n ≡ (is_digits (front is_digit s) and is_fraction (after is_digit s))
  unfolding is_digits ◌and◌
  float_none h = let z : n ≡ 0 = omega arith in rw (run_front is_digit s n is, z)

  pub float_rest : (t : Bool) → 0 < n → t ≡ is_fraction (take (length s - n) (drop n s)) → t ≡ (is_digits (front is_digit s) and is_fraction (after is_digit s))
  unfolding is_digits ◌and◌
  float_rest t h g =
      let w = run_within is_digit s n is in
      let l : 1 ≤ length (front is_digit s) = rw (run_front is_digit s n is, length-take) (omega arith) in
      let e : take (length s - n) (drop n s) ≡ drop n s = take_all (length s - n) (drop n s) (omega (arith, length-drop n s)) in
      rw (le-leb 1 _ l, front-all is_digit s, run_after is_digit s n is, ← e) g

-- A digit, `-` and `.` are name bytes, so a number has no others.
digits_bytes : (s : List ℕ) → is_digits s ≡ true → all is_name_byte s ≡ true
unfolding is_digits
digits_bytes s e = all_implied is_digit is_name_byte digit_name s (and_r (leb 1 (length s)) _ e)

fraction_bytes : (s : List ℕ) → is_fraction s ≡ true → all is_name_byte s ≡ true
unfolding is_fraction all
fraction_bytes [] e = refl
fraction_bytes (c ∷ s) e =
    let d : is_name_byte c ≡ true = rw (eqb-true c (ch ".") (and_l _ _ e)) (unfold byte-rules in refl) in
    and_i (is_name_byte c) (all is_name_byte s) d (digits_bytes s (and_r (eqb c (ch ".")) _ e))

signed_bytes : (s : List ℕ) → all is_name_byte (without (ch "-") s) ≡ true → all is_name_byte s ≡ true
unfolding without all pick
signed_bytes [] e = refl
signed_bytes (c ∷ s) e = go (eqb (ch "-") c) refl e
  where
    go : (b : Bool) → eqb (ch "-") c ≡ b → all is_name_byte (pick b s (c ∷ s)) ≡ true → (is_name_byte c and all is_name_byte s) ≡ true
    go true f e = and_i (is_name_byte c) (all is_name_byte s) (rw (← eqb-true (ch "-") c f) (unfold byte-rules in refl)) e
    go false f e = e

pub number-bytes : (b : Bool) (s : List ℕ) → is_number b s ≡ true → all is_name_byte s ≡ true
unfolding is_number
number-bytes false s e = signed_bytes s (digits_bytes (without (ch "-") s) e)
number-bytes true s e =
    let l = without (ch "-") s in
    let d = digits_bytes (front is_digit l) (and_l _ _ e) in
    let f = fraction_bytes (after is_digit l) (and_r (is_digits (front is_digit l)) _ e) in
    signed_bytes s (rw (front-after is_digit l) at (all_append is_name_byte (front is_digit l) (after is_digit l) d f))
