-- A loop that passes the bytes that pass a test p, from `at` on. Its invariant is `after p (drop at s) ≡ after p (drop i s)`.
use mathlib.Core.Path.{◌≡◌, refl, sym, ap, ◌∙◌}
use mathlib.Core.Bool.{Bool, true, false, not, cond}
use mathlib.Core.List.{List, [], ◌∷◌, ◌++◌}
use Prim.Native.Nat.{ℕ, suc, ◌+◌, ◌-◌, ◌≤◌, ◌<◌}
use native.Mathlib.Omega.{arith}
use lib.ListN.{length, get_or, take, drop, length-drop}
use Rattle.std.specs.Prelude.{Some, None}
use native.Mathlib.Numerals.{one-add}
use lib.Dec.{ltb}
use borrow.Author.Tests.{ltb-false}
use Rattle.std.specs.Option.{unwrap_or}
use Rattle.std.specs.List.{position, position_or_len}
use Rattle.std.proofs.lemmas.List.Sums.{prefix_len-le-length}
use Rattle.names.specs.Bytes.{all}
use Rattle.names.specs.Pick.{pick, ◌and◌}
use Rattle.names.specs.Scan.{after, front}
use Rattle.names.specs.code.Scanned.{Scanned}
use Rattle.names.proofs.Walk.{drop_here, drop_past}

module _ (p : ℕ → Bool) (s : List ℕ) (at i : ℕ) (inv : after p (drop at s) ≡ after p (drop i s)) where
  -- The byte at i fails the test.
  pub scan_stop : (t : Bool) → t ≡ p (get_or s i 0) → t ≡ false → i < length s → drop i s ≡ after p (drop at s)
  unfolding after pick
  scan_stop t e f h = sym (inv ∙ rw (drop_here s i h, ← e, f))

  -- It passes.
  pub scan_on : (t : Bool) → t ≡ p (get_or s i 0) → t ≡ true → i < length s → after p (drop at s) ≡ after p (drop (i + 1) s)
  unfolding after pick
  scan_on t e f h = inv ∙ rw (drop_here s i h, ← e, f)

  -- The text ends.
  pub scan_end : length s ≤ i → drop i s ≡ after p (drop at s)
  unfolding after
  scan_end h = sym (inv ∙ rw (drop_past s i h))

pub length-after : (p : ℕ → Bool) (l : List ℕ) → length (after p l) ≤ length l
unfolding after pick
length-after p [] = omega arith
length-after p (x ∷ xs) = go (p x) (length-after p xs)
  where
    go : (b : Bool) → length (after p xs) ≤ length xs → length (pick b (after p xs) (x ∷ xs)) ≤ suc (length xs)
    go true h = omega arith
    go false h = omega arith

-- What was passed, from what is left.
front-is : (p : ℕ → Bool) (l : List ℕ) → front p l ≡ take (length l - length (after p l)) l
unfolding front after pick
front-is p [] = refl
front-is p (x ∷ xs) = go (p x) (front-is p xs) (length-after p xs)
  where
    go : (b : Bool) → front p xs ≡ take (length xs - length (after p xs)) xs → length (after p xs) ≤ length xs
        → pick b (x ∷ front p xs) [] ≡ take (suc (length xs) - length (pick b (after p xs) (x ∷ xs))) (x ∷ xs)
    go true e h = let q : suc (length xs) - length (after p xs) ≡ suc (length xs - length (after p xs)) = omega arith in rw (q, e)
    go false e h = let q : suc (length xs) - suc (length xs) ≡ 0 = omega arith in rw q

scan_passed : (p : ℕ → Bool) (s : List ℕ) (at r : ℕ) → drop r s ≡ after p (drop at s) → at ≤ r → r ≤ length s → take (r - at) (drop at s) ≡ front p (drop at s)
scan_passed p s at r e h k =
    let q : length (drop at s) - length (after p (drop at s)) ≡ r - at = rw (← e) (simp length-drop (omega arith)) in
    sym (front-is p (drop at s) ∙ rw q)

pub scanned : (p : ℕ → Bool) (s : List ℕ) (at r : ℕ) → drop r s ≡ after p (drop at s) → at ≤ r → r ≤ length s → Scanned p s at r
scanned p s at r e h k = record { left = e; passed = scan_passed p s at r e h k; low = h; high = k }

-- A first byte that passes the test is passed.
pub scan_moves : (p : ℕ → Bool) (s : List ℕ) (at r : ℕ) → Scanned p s at r → at < length s → p (get_or s at 0) ≡ true → at < r
unfolding after pick
scan_moves p s at r w h e =
    let q : drop r s ≡ after p (drop (at + 1) s) = w.left ∙ rw (drop_here s at h, e) in
    let l : length s - r ≤ length s - (at + 1) = simp length-drop at (rw (← q) at (length-after p (drop (at + 1) s))) in
    let k = w.high in
    omega arith

-- What was passed and what is left, in one list.
pub front-after : (p : ℕ → Bool) (l : List ℕ) → front p l ++ after p l ≡ l
unfolding front after pick
front-after p [] = refl
front-after p (x ∷ xs) = go (p x) (front-after p xs)
  where
    go : (b : Bool) → front p xs ++ after p xs ≡ xs → pick b (x ∷ front p xs) [] ++ pick b (after p xs) (x ∷ xs) ≡ x ∷ xs
    go true e = rw e
    go false e = refl

-- All that was passed passes the test.
pub front-all : (p : ℕ → Bool) (l : List ℕ) → all p (front p l) ≡ true
unfolding front all pick ◌and◌
front-all p [] = refl
front-all p (x ∷ xs) = go (p x) refl (front-all p xs)
  where
    go : (b : Bool) → p x ≡ b → all p (front p xs) ≡ true → all p (pick b (x ∷ front p xs) []) ≡ true
    go true e h = rw (e, h)
    go false e h = refl

-- The run by the library's word for its end, as a chain of an iterator answers.
run_parts : (p : ℕ → Bool) (s : List ℕ) → (take (position_or_len (λ c. not (p c)) s) s ≡ front p s) × (drop (position_or_len (λ c. not (p c)) s) s ≡ after p s)
unfolding front after pick
run_parts p [] = (refl, refl)
run_parts p (c ∷ s) = go (p c) (run_parts p s)
  where
    go : (b : Bool) → (take (position_or_len (λ c. not (p c)) s) s ≡ front p s) × (drop (position_or_len (λ c. not (p c)) s) s ≡ after p s)
        → (take (cond (not (not b)) (1 + position_or_len (λ c. not (p c)) s) 0) (c ∷ s) ≡ pick b (c ∷ front p s) [])
        × (drop (cond (not (not b)) (1 + position_or_len (λ c. not (p c)) s) 0) (c ∷ s) ≡ pick b (after p s) (c ∷ s))
    go true h = (rw one-add (ap (λ l. c ∷ l) h.0), rw one-add h.1)
    go false h = (refl, refl)

-- n, the place of the first byte that fails the test, or the text's end.
module _ (p : ℕ → Bool) (s : List ℕ) (n : ℕ) (is : n ≡ unwrap_or (position (λ c. not (p c)) s) (length s)) where
  run_end : n ≡ position_or_len (λ c. not (p c)) s
  run_end = go (ltb (position_or_len (λ c. not (p c)) s) (length s)) refl is
    where
      k : ℕ
      k = position_or_len (λ c. not (p c)) s

      go : (b : Bool) → ltb k (length s) ≡ b → n ≡ unwrap_or (cond b (Some k) None) (length s) → n ≡ k
      go true f e = e
      go false f e = let l = prefix_len-le-length (λ c. not (not (p c))) s in let m = ltb-false k (length s) f in omega arith

  pub run_within : n ≤ length s
  run_within = rw run_end (prefix_len-le-length (λ c. not (not (p c))) s)

  pub run_front : front p s ≡ take n s
  run_front = rw run_end (sym (run_parts p s).0)

  pub run_after : after p s ≡ drop n s
  run_after = rw run_end (sym (run_parts p s).1)

pub ruleset scan-loop = (scanned, scan_stop, scan_end, scan_on)
