-- Zeros: behind a text, where a list whose rest is zeros is its front filled up and a text filled up has zeros behind it; and in the loop that tests them.
use mathlib.Core.Path.{◌≡◌, refl, ap, sym, ◌∙◌}
use mathlib.Core.Bool.{true, Bool, false}
use mathlib.Core.List.{List, [], ◌∷◌, ◌++◌}
use Prim.Native.Nat.{ℕ, zero, suc, ◌-◌, ◌≤◌}
use native.Mathlib.Omega.{arith}
use lib.Bits.{bit_or, or_add_and, and_le_r}
use lib.Dec.{eqb}
use lib.ListN.{length, take, drop, replicate, length-drop, take-append-drop}
use lib.Seq.{length-take-le, drop-append_seam}
use borrow.Author.Tests.{eqb-true, ne_eqb, eqb-false}
use Rattle.std.specs.Prelude.{map, nat_eq}
use Rattle.std.proofs.lemmas.List.Sums.{fold-append}
use Rattle.std.specs.List.{fold}
use Rattle.names.specs.Bytes.{all}
use Rattle.names.specs.Pick.{◌and◌}
use Rattle.names.proofs.Tests.{and_l, and_r, and_i, and_true, and_assoc}
use Rattle.store.specs.Image.{padded}
use Rattle.store.specs.code.Layout.{zeros, IsNumbered}

pub zeros_are : (s : List ℕ) → zeros s ≡ true → s ≡ replicate (length s) 0
unfolding zeros all
zeros_are [] e = refl
zeros_are (x ∷ s) e =
    let h : x ≡ 0 = eqb-true x 0 (and_l (eqb x 0) (zeros s) e) in
    let t : s ≡ replicate (length s) 0 = zeros_are s (and_r (eqb x 0) (zeros s) e) in
    rw h (ap (λ (l : List ℕ). 0 ∷ l) t)

pub zeros-replicate : (n : ℕ) → zeros (replicate n 0) ≡ true
unfolding zeros all
zeros-replicate zero = refl
zeros-replicate (suc n) = and_i (eqb 0 0) (zeros (replicate n 0)) refl (zeros-replicate n)

pub padded-take : (n k : ℕ) (s : List ℕ) → length s ≡ n → k ≤ n → zeros (drop k s) ≡ true → padded n (take k s) ≡ s
unfolding padded
padded-take n k s h l e =
    let a : k ≤ length s = omega arith in
    let m : n - k ≡ length (drop k s) = omega (arith, length-drop k s) in
    rw (length-take-le k s a, m, ← zeros_are (drop k s) e) (take-append-drop k s)

pub padded-behind : (n : ℕ) (s : List ℕ) → zeros (drop (length s) (padded n s)) ≡ true
unfolding padded
padded-behind n s = rw drop-append_seam (zeros-replicate (n - length s))

-- The bits of the elements of a list, joined: none is set exactly if all are 0.
joined_zero : (n x : ℕ) → (eqb n 0 and eqb x 0) ≡ eqb (bit_or n x) 0
unfolding ◌and◌
joined_zero n x = go (eqb n 0) refl (eqb x 0) refl
  where
    go : (s : Bool) → eqb n 0 ≡ s → (t : Bool) → eqb x 0 ≡ t → (s and t) ≡ eqb (bit_or n x) 0
    go true e true f = rw (eqb-true n 0 e, eqb-true x 0 f)
    go true e false f = rw (eqb-true n 0 e) (sym f)
    go false e t f =
        sym (ne_eqb (bit_or n x) 0 (λ z. let a = or_add_and n x in let b = and_le_r n x in eqb-false n 0 e (omega arith)))

pub bits-joined : {T : Type 0} (number : T → ℕ) (any : ℕ) (s : List T)
    → eqb (fold (λ a x. bit_or a (number x)) any s) 0 ≡ (eqb any 0 and zeros (map number s))
unfolding zeros all
bits-joined number any [] = sym (and_true (eqb any 0))
bits-joined number any (x ∷ s) =
    bits-joined number (bit_or any (number x)) s
    ∙ rw (← joined_zero any (number x)) (and_assoc (eqb any 0) (eqb (number x) 0) (zeros (map number s)))

pub next_joined : {T : Type 0} (number : T → ℕ) (ys : List T) (a x b : T) → number a ≡ fold (λ n x. bit_or n (number x)) 0 ys
    → number b ≡ bit_or (number a) (number x) → number b ≡ fold (λ n x. bit_or n (number x)) 0 (ys ++ x ∷ [])
next_joined number ys a x b e f = f ∙ rw (e, fold-append (λ n x. bit_or n (number x)) 0 ys (x ∷ []))

pub none_set : {T : Type 0} (number : T → ℕ) {equal : T → T → Bool} → ((x y : T) → equal x y ≡ eqb (number x) (number y)) → {d r : T} {t : Bool} (s : List T)
    → number d ≡ 0 → t ≡ equal r d → number r ≡ fold (λ n x. bit_or n (number x)) 0 s → t ≡ zeros (map number s)
unfolding ◌and◌
none_set number same {d} {r} {t} s z e f = e ∙ same r d ∙ rw (z, f) (bits-joined number 0 s)

-- At a type whose values are their own numbers.
pub zeros_same : (s : List ℕ) (t : Bool)
    → ((number : ℕ → ℕ) → IsNumbered (λ x. x ≡ 0) nat_eq (λ x y z. z ≡ bit_or x y) number → t ≡ zeros (map number s)) → t ≡ zeros s
zeros_same s t e =
    e (λ x. x) record { zero = λ x h. h; same = λ x y. refl; joined = λ x y z h. h } ∙ ap zeros (map_same s)
  where
    map_same : (s : List ℕ) → map (λ x. x) s ≡ s
    map_same [] = refl
    map_same (x ∷ s) = ap (λ (l : List ℕ). x ∷ l) (map_same s)
