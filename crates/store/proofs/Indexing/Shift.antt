-- Putting in and taking out by a copy within an index, and their rows and entities.
use mathlib.Core.Path.{◌≡◌, refl, ap, sym, ◌∙◌}
use mathlib.Core.Bool.{Bool, true}
use mathlib.Core.List.{List, [], ◌∷◌, ◌++◌, map, map-append}
use Prim.Native.Nat.{ℕ, zero, suc, ◌+◌, ◌-◌, ◌≤◌, ◌<◌}
use native.Mathlib.Omega.{arith}
use lib.ListN.{length, length-take, length-drop, take, drop, set, take-append-drop}
use Rattle.std.specs.List.{copy_within}
use Rattle.std.proofs.lemmas.List.{drop-take, take_more_set, set-append_left}
use lib.Seq.{take-paste, append_snoc, take-set-lt, take-take}
use Rattle.names.specs.Bytes.{all}
use Rattle.names.proofs.Tests.{and_l, and_r, and_i, all_append, all_left, all_right}
use Rattle.store.specs.code.Index.{inserted, removed}

drop-part : (l : List ℕ) (p n : ℕ) → p ≤ n → drop p (take n l) ≡ take (n - p) (drop p l)
drop-part l p n h = let e : n ≡ p + (n - p) = omega arith in ap (λ (i : ℕ). drop p (take i l)) e ∙ drop-take p (n - p) l

-- A copy up by one leaves the place free at which an element is put.
pub copied-up : (index : List ℕ) (n p r : ℕ) → p ≤ n → n < length index → take (n + 1) (set (copy_within index p n (p + 1)) p r) ≡ inserted (take n index) p r
unfolding inserted
copied-up index n p r h k =
    let rest : List ℕ = take (n - p) (drop p index) in
    let span : n + 1 ≡ (p + 1) + (n - p) = omega arith in
    let front : take (n + 1) (copy_within index p n (p + 1)) ≡ take (p + 1) index ++ rest =
    rw span (take-paste index (p + 1) (drop p index) (n - p) (omega arith) (omega (arith, length-drop p index))) in
    let put : set (take (p + 1) index) p r ≡ take p index ++ r ∷ [] = sym (take-set-lt (p + 1) index p r (omega arith)) ∙ take_more_set index p r (omega arith) in
    take-set-lt (n + 1) (copy_within index p n (p + 1)) p r (omega arith)
    ∙ ap (λ (l : List ℕ). set l p r) front
    ∙ set-append_left (take (p + 1) index) rest p r (omega (arith, length-take (p + 1) index))
    ∙ rw (put, take-take p n index h, drop-part index p n h) (append_snoc (take p index) r rest)

-- A copy down closes the gap.
pub copied-down : (index : List ℕ) (n p q : ℕ) → p ≤ q → q ≤ n → n ≤ length index → take (n - (q - p)) (copy_within index q n p) ≡ removed (take n index) p q
unfolding removed
copied-down index n p q h k l =
    let span : n - (q - p) ≡ p + (n - q) = omega arith in
    let front : take (n - (q - p)) (copy_within index q n p) ≡ take p index ++ take (n - q) (drop q index) =
    rw span (take-paste index p (drop q index) (n - q) (omega arith) (omega (arith, length-drop q index))) in
    front ∙ rw (take-take p n index (omega arith), drop-part index q n k)

-- What is made of each element passes through.
module _ {A : Type 0} (g : ℕ → A) where
  map-take : (n : ℕ) (l : List ℕ) → map g (take n l) ≡ take n (map g l)
  map-take zero l = refl
  map-take (suc n) [] = refl
  map-take (suc n) (x ∷ l) = ap (λ (t : List A). g x ∷ t) (map-take n l)

  map-drop : (n : ℕ) (l : List ℕ) → map g (drop n l) ≡ drop n (map g l)
  map-drop zero l = refl
  map-drop (suc n) [] = refl
  map-drop (suc n) (x ∷ l) = map-drop n l

  pub map-set : (l : List ℕ) (p x : ℕ) → map g (set l p x) ≡ set (map g l) p (g x)
  map-set [] p x = refl
  map-set (y ∷ l) zero x = refl
  map-set (y ∷ l) (suc p) x = ap (λ (t : List A). g y ∷ t) (map-set l p x)

  pub map-inserted : (l : List ℕ) (p x : ℕ) → map g (inserted l p x) ≡ inserted (map g l) p (g x)
  unfolding inserted
  map-inserted l p x = map-append g (take p l) (x ∷ drop p l) ∙ rw (map-take p l, map-drop p l)

  pub map-removed : (l : List ℕ) (p q : ℕ) → map g (removed l p q) ≡ removed (map g l) p q
  unfolding removed
  map-removed l p q = map-append g (take p l) (drop q l) ∙ rw (map-take p l, map-drop q l)

-- A test that all pass, they still pass.
module _ {A : Type 0} (t : A → Bool) where
  all_take : (n : ℕ) (l : List A) → all t l ≡ true → all t (take n l) ≡ true
  all_take n l e = all_left t (take n l) (drop n l) (rw take-append-drop e)

  all_drop : (n : ℕ) (l : List A) → all t l ≡ true → all t (drop n l) ≡ true
  all_drop n l e = all_right t (take n l) (drop n l) (rw take-append-drop e)

  pub all_set : (l : List A) (p : ℕ) (x : A) → t x ≡ true → all t l ≡ true → all t (set l p x) ≡ true
  unfolding all
  all_set [] p x h e = refl
  all_set (y ∷ l) zero x h e = and_i (t x) (all t l) h (and_r (t y) _ e)
  all_set (y ∷ l) (suc p) x h e = and_i (t y) (all t (set l p x)) (and_l (t y) _ e) (all_set l p x h (and_r (t y) _ e))

  pub all_inserted : (l : List A) (p : ℕ) (x : A) → t x ≡ true → all t l ≡ true → all t (inserted l p x) ≡ true
  unfolding inserted all
  all_inserted l p x h e = all_append t (take p l) (x ∷ drop p l) (all_take p l e) (and_i (t x) (all t (drop p l)) h (all_drop p l e))

  pub all-removed : (l : List A) (p q : ℕ) → all t l ≡ true → all t (removed l p q) ≡ true
  unfolding removed
  all-removed l p q e = all_append t (take p l) (drop q l) (all_take p l e) (all_drop q l e)
