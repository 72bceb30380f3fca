-- Depths and the names that they use.
use mathlib.Core.Path.{◌≡◌, refl}
use mathlib.Core.Bool.{Bool, true, false, ◌||◌}
use Prim.Native.Nat.{ℕ, ◌+◌, ◌-◌, ◌*◌, ◌/◌, ◌≤◌, ◌<◌}
use native.Mathlib.Decide.{ℕ_discrete}
use native.Mathlib.Omega.{arith}
use lib.Dec.{eqb, leb, ltb}
use borrow.Author.Tests.{le-leb, ltb-true, eqb-true, ne_eqb}
use Rattle.names.specs.Key.{names_used}
use Rattle.names.specs.Pick.{pick, ◌and◌}
use Rattle.names.proofs.Tests.{below, at-below, implies, implied}

-- A choice between numbers of which each is small.
pub pick-most : (b : Bool) (x y m : ℕ) → x ≤ m → y ≤ m → pick b x y ≤ m
unfolding pick
pick-most true x y m h k = h
pick-most false x y m h k = k

pub used_most : (d : ℕ) → names_used d ≤ 8
unfolding names_used
used_most d =
    pick-most _ 1 _ 8 (omega arith)
    (pick-most _ 3 _ 8 (omega arith)
    (pick-most _ 5 _ 8 (omega arith) (pick-most _ 7 _ 8 (omega arith) (pick-most _ 8 _ 8 (omega arith) (omega arith)))))

-- A deeper key uses more names, so an ancestor's are among those of its descendants.
pub used_grows : (c d : ℕ) → c < d → d ≤ 5 → names_used c < names_used d
unfolding names_used pick ◌and◌
used_grows c d h k =
    ltb-true _ _ (at-below d (λ c. ltb (names_used c) (names_used d)) (at-below 6 (λ d. below d (λ c. ltb (names_used c) (names_used d))) refl d (omega arith)) c h)

pub used_rises : (c d : ℕ) → c ≤ d → d ≤ 5 → names_used c ≤ names_used d
used_rises c d h k = elim (ℕ_discrete c d) [ yes q ↦ rw q (omega arith) | no q ↦ let r = used_grows c d (omega arith) k in omega arith ]

-- One depth more uses one name more at depths 1 and 5, else two.
used_next : (d : ℕ) → d < 5 → eqb (names_used (d + 1)) (names_used d + pick (eqb (d + 1) 1 || eqb (d + 1) 5) 1 2) ≡ true
unfolding names_used pick ◌and◌
used_next d h = at-below 5 (λ (x : ℕ). eqb (names_used (x + 1)) (names_used x + pick (eqb (x + 1) 1 || eqb (x + 1) 5) 1 2)) refl d h

pub used_one : (d : ℕ) → d < 5 → (eqb (d + 1) 1 || eqb (d + 1) 5) ≡ true → names_used (d + 1) ≡ names_used d + 1
unfolding pick
used_one d h e = eqb-true _ _ (rw e at (used_next d h))

pub used_two : (d : ℕ) → d < 5 → (eqb (d + 1) 1 || eqb (d + 1) 5) ≡ false → names_used (d + 1) ≡ names_used d + 2
unfolding pick
used_two d h e = eqb-true _ _ (rw e at (used_next d h))

-- So there is room for them.
pub room_one : (d u : ℕ) → u ≡ names_used d → d < 5 → u < 8
unfolding names_used pick ◌and◌
room_one d u e h = rw e (ltb-true _ 8 (at-below 5 (λ (x : ℕ). ltb (names_used x) 8) refl d h))

pub room_two : (d u : ℕ) → u ≡ names_used d → d < 5 → (d + 1 ≡ 1 → ⊥) → (d + 1 ≡ 5 → ⊥) → u + 1 < 8
room_two d u e h a b =
    let t : (eqb (d + 1) 1 || eqb (d + 1) 5) ≡ false = rw (ne_eqb (d + 1) 1 a, ne_eqb (d + 1) 5 b) in
    let q : names_used (d + 1) ≡ u + 2 = rw e (used_two d h t) in
    let m : names_used (d + 1) ≤ 8 = used_most (d + 1) in
    omega arith

pub ruleset rooms = (room_one, room_two)

-- The names that a depth uses, as they are counted.
pub used_beyond : (d : ℕ) → 5 < d → 0 ≡ names_used d
unfolding names_used pick
used_beyond d h =
    rw (ne_eqb d 1 (λ e. omega arith), ne_eqb d 2 (λ e. omega arith), ne_eqb d 3 (λ e. omega arith), ne_eqb d 4 (λ e. omega arith), ne_eqb d 5 (λ e. omega arith))

pub used_zero : (d : ℕ) → d ≡ 0 → 0 ≡ names_used d
unfolding names_used pick
used_zero d e = rw e

pub used_counted : (d : ℕ) → d ≤ 5 → (d ≡ 0 → ⊥) → 2 * d - 1 - d / 5 ≡ names_used d
unfolding names_used pick ◌and◌
used_counted d h n =
    eqb-true _ _ (implied _ _ (at-below 6 (λ (x : ℕ). implies (leb 1 x) (eqb (2 * x - 1 - x / 5) (names_used x))) refl d (omega arith)) (le-leb 1 d (omega (arith, n))))

pub ruleset used = (used_beyond, used_zero, used_counted)
