-- Keys against each other: the order turned round, and which keys a key covers.
use mathlib.Core.Path.{◌≡◌, refl, sym, ◌∙◌, ap}
use mathlib.Core.Bool.{true, false, false≢true}
use mathlib.Core.List.{[], ◌∷◌, ◌++◌, append-nil}
use Prim.Native.Nat.{ℕ, zero, suc, ◌<◌}
use native.Mathlib.Nat.{not-suc-le-zero, le_of_suc-le-suc}
use lib.ListN.{length, take, drop, take-append-drop}
use Rattle.std.specs.declared.cmp.Ordering.TheVariants.{Less, Greater}
use Rattle.names.specs.Key.{Key, key_order, covers}
use Rattle.names.specs.Order.{not_after, same, begins, lex}
use Rattle.names.specs.Pick.{◌and◌}
use Rattle.names.proofs.Ordered.{flip, key-order, name-order, same_eq, covers-append, covers-take, together}
use Rattle.names.proofs.Tests.{and_l, and_r, not_then}

pub less_turned : (j k : Key) → key_order j k ≡ Less → key_order k j ≡ Greater
less_turned j k e = key-order.flipped j k ∙ ap flip e

pub more_turned : (j k : Key) → key_order j k ≡ Greater → key_order k j ≡ Less
more_turned j k e = key-order.flipped j k ∙ ap flip e

pub covers_self : (k : Key) → covers k k ≡ true
covers_self k = rw append-nil at (covers-append k [])

-- A key that has another in front is covered by it,
pub covers-front : (j k : Key) → take (length j) k ≡ j → covers j k ≡ true
covers-front j k e =
    let whole : k ≡ j ++ drop (length j) k = sym (take-append-drop (length j) k) ∙ ap (λ (x : Key). x ++ drop (length j) k) e in
    rw whole (covers-append j (drop (length j) k))

-- and what covers the front of a key covers the key.
pub covers_longer : (j : Key) (n : ℕ) (k : Key) → covers j (take n k) ≡ true → covers j k ≡ true
unfolding covers begins ◌and◌
covers_longer [] n k e = refl
covers_longer (x ∷ j) zero k e = absurd (false≢true e)
covers_longer (x ∷ j) (suc n) [] e = e
covers_longer (x ∷ j) (suc n) (y ∷ k) e = rw (and_l (same x y) _ e) (covers_longer j n k (and_r (same x y) _ e))

-- The front of a key comes before it.
pub front-first : (n : ℕ) (k : Key) → n < length k → key_order (take n k) k ≡ Less
unfolding key_order lex
front-first n [] h = absurd (not-suc-le-zero h)
front-first zero (x ∷ k) h = refl
front-first (suc n) (x ∷ k) h = rw (name-order.alike x) (front-first n k (le_of_suc-le-suc h))

-- What a key covers does not come before it,
pub covers_upto : (k j : Key) → covers k j ≡ true → not_after (key_order k j) ≡ true
unfolding covers begins key_order lex
covers_upto [] [] e = refl
covers_upto [] (y ∷ j) e = refl
covers_upto (x ∷ k) [] e = absurd (false≢true e)
covers_upto (x ∷ k) (y ∷ j) e = rw (← same_eq x y (and_l _ _ e), name-order.alike x) (covers_upto k j (and_r (same x y) _ e))

pub not_covered : (k j : Key) → key_order j k ≡ Less → covers k j ≡ false
not_covered k j l = not_then (covers k j) (λ c. false≢true (rw (less_turned j k l) at (covers_upto k j c)))

-- and stands together: what lies between it and a key that it covers, it covers.
pub covers_between : (k j i : Key) → key_order k j ≡ Less → key_order j i ≡ Less → covers k i ≡ true → covers k j ≡ true
covers_between k j i a b c =
    let whole : k ++ drop (length k) i ≡ i = ap (λ (x : Key). x ++ drop (length k) i) (sym (covers-take k i c)) ∙ take-append-drop (length k) i in
    covers-front k j (together k (drop (length k) i) j (rw a) (rw (whole, b)))
