-- What is known of a key whose names are of their forms.
use mathlib.Core.Path.{◌≡◌, refl, ◌∙◌, ap}
use mathlib.Core.Bool.{true, false≢true}
use mathlib.Core.List.{[], ◌∷◌}
use Prim.Native.Nat.{ℕ, zero, suc, ◌*◌, ◌≤◌}
use native.Mathlib.Omega.{arith}
use lib.Dec.{eqb, leb}
use lib.ListN.{length}
use borrow.Author.Tests.{eqb-true, le-leb}
use Rattle.names.specs.Bytes.{all}
use Rattle.names.specs.Name.{is_name, is_name_of}
use Rattle.names.specs.Pick.{pick, ◌and◌}
use Rattle.names.specs.Key.{Key, Name, names_used, depth_of, is_key, is_repeat, are_levels, packed}
use Rattle.names.specs.code.HeldKey.{packed_most}
use Rattle.names.proofs.Tests.{and_l, and_r, and_i, at-below, implies, implied}
use Rattle.names.proofs.KeyDepth.{pick-most, used_most, used_zero}
use Rattle.names.proofs.KeyPacked.{fits, packed-length}

pub name-fits : (n : Name) → is_name n ≡ true → fits n ≡ true
unfolding is_name is_name_of fits
name-fits n e = and_l _ _ (and_r (leb 1 (length n)) _ e)

repeat_fits : (n : Name) → is_repeat n ≡ true → fits n ≡ true
unfolding is_repeat fits
repeat_fits [] e = refl
repeat_fits (c ∷ n) e = name-fits (c ∷ n) e

levels_fit : (k : Key) → are_levels k ≡ true → all fits k ≡ true
unfolding are_levels all ◌and◌
levels_fit [] e = refl
levels_fit (n ∷ []) e = and_i _ _ (name-fits n e) refl
levels_fit (n ∷ r ∷ k) e =
    and_i _ _ (name-fits n (and_l _ _ e))
    (and_i _ _ (repeat_fits r (and_l _ _ (and_r (is_name n) _ e))) (levels_fit k (and_r (is_repeat r) _ (and_r (is_name n) _ e))))

pub key_fits : (k : Key) → is_key k ≡ true → all fits k ≡ true
unfolding is_key all
key_fits [] e = absurd (false≢true e)
key_fits (n ∷ k) e = and_i _ _ (name-fits n (and_l _ _ e)) (levels_fit k (and_l _ _ (and_r (is_name n) _ e)))

-- Its depth uses its names.
pub key_used : (k : Key) → is_key k ≡ true → names_used (depth_of k) ≡ length k
unfolding is_key
key_used [] e = absurd (false≢true e)
key_used (n ∷ k) e = eqb-true _ _ (and_r (are_levels k) _ (and_r (is_name n) _ e))

pub deepest : (k : Key) → depth_of k ≤ 5
unfolding depth_of
deepest k =
    pick-most _ 1 _ 5 (omega arith)
    (pick-most _ 2 _ 5 (omega arith)
    (pick-most _ 3 _ 5 (omega arith) (pick-most _ 4 _ 5 (omega arith) (pick-most _ 5 _ 5 (omega arith) (omega arith)))))

pub key-depth : (k : Key) → is_key k ≡ true → (1 ≤ depth_of k) × (depth_of k ≤ 5)
unfolding is_key
key-depth [] e = absurd (false≢true e)
key-depth (n ∷ k) e = (go (depth_of (n ∷ k)) (key_used (n ∷ k) e), deepest (n ∷ k))
  where
    go : (d : ℕ) → names_used d ≡ length (n ∷ k) → 1 ≤ d
    go zero q = let z : 0 ≡ names_used 0 = used_zero 0 refl in absurd (omega arith)
    go (suc d) q = omega arith

-- The depth is the one that uses as many names.
abbrev depth_by : ℕ → ℕ
depth_by n = pick (eqb n 1) 1 (pick (eqb n 3) 2 (pick (eqb n 5) 3 (pick (eqb n 7) 4 (pick (eqb n 8) 5 0))))

pub depth_used : (d : ℕ) (k : Key) → 1 ≤ d → d ≤ 5 → length k ≡ names_used d → depth_of k ≡ d
unfolding depth_of names_used pick ◌and◌
depth_used d k h m e =
    ap depth_by e ∙ eqb-true _ _ (implied _ _ (at-below 6 (λ (x : ℕ). implies (leb 1 x) (eqb (depth_by (names_used x)) x)) refl d (omega arith)) (le-leb 1 d h))

-- The bytes of a key's names.
pub key-most : (k : Key) → is_key k ≡ true → length (packed k) ≤ packed_most
key-most k e =
    let a : length (packed k) ≤ 17 * length k = packed-length k (key_fits k e) in
    let b : length k ≤ 8 = rw (← key_used k e) (used_most (depth_of k)) in
    omega arith
