-- The key of an element below ClinicalData: its parent's key with its own names behind.
use mathlib.Core.Path.{◌≡◌, refl, sym, ap}
use mathlib.Core.List.{[], ◌∷◌, ◌++◌}
use mathlib.Core.Bool.{true, false, false≢true}
use Prim.Native.Nat.{ℕ, zero, suc, ◌+◌, ◌-◌, ◌<◌}
use native.Mathlib.Omega.{arith}
use lib.ListN.{length, length-append, length-take}
use lib.Seq.{take-append_seam}
use borrow.Author.Tests.{eq-eqb}
use Rattle.names.specs.Key.{Key, Name, names_used, depth_of, is_repeat, are_levels, is_key, own_names, covers}
use Rattle.names.specs.Name.{is_name}
use Rattle.names.specs.Pick.{pick}
use Rattle.names.proofs.Tests.{and_l, and_r, and_i, not_then}
use Rattle.names.proofs.KeyForm.{depth_used as names-depth-used}
use Rattle.names.proofs.Ordered.{covers-take}
use Rattle.store.specs.Change.{parent_of}
use Rattle.reader.specs.code.Keeping.{KeyOfDepth}

-- A key covers none that is shorter.
pub covers_longer : (j k : Key) → length k < length j → covers j k ≡ false
covers_longer j k h = not_then (covers j k) (λ e. let l = ap length (covers-take j k e) in let t = length-take (length j) k in omega arith)

-- The depth of a key by the number of its names.
pub depth_used : (k : Key) (d : ℕ) → d < 5 → length k ≡ names_used (suc d) → depth_of k ≡ suc d
depth_used k d h e = names-depth-used (suc d) k (omega arith) (omega arith) e

pub key-length : (d : ℕ) (k : Key) → KeyOfDepth d k → length k ≡ names_used d
unfolding names_used pick
key-length zero k e = rw e
key-length (suc d) k e = e.1

are_levels-append : (j : ℕ) (xs ys : Key) → length xs ≡ j + j → are_levels xs ≡ true → are_levels ys ≡ true → are_levels (xs ++ ys) ≡ true
unfolding are_levels
are_levels-append zero [] ys e l r = r
are_levels-append zero (x ∷ xs) ys e l r = absurd (omega arith)
are_levels-append (suc j) [] ys e l r = absurd (omega arith)
are_levels-append (suc j) (x ∷ []) ys e l r = absurd (omega arith)
are_levels-append (suc j) (x ∷ y ∷ xs) ys e l r =
    and_i _ _ (and_l _ _ l) (and_i _ _ (and_l _ _ (and_r (is_name x) _ l)) (are_levels-append j xs ys (omega arith) (and_r (is_repeat y) _ (and_r (is_name x) _ l)) r))

is-key : (x : Name) (xs : Key) (d : ℕ) → d < 5 → is_name x ≡ true → are_levels xs ≡ true → length (x ∷ xs) ≡ names_used (suc d) → is_key (x ∷ xs) ≡ true
unfolding is_key
is-key x xs d h n l e = and_i _ _ n (and_i _ _ l (rw (depth_used (x ∷ xs) d h e) (eq-eqb _ _ (sym e))))

module _ (n r : Name) where
  own_length : (d : ℕ) → d < 5 → names_used d + length (own_names (suc d) n r) ≡ names_used (suc d)
  unfolding names_used own_names pick
  own_length zero h = refl
  own_length (suc zero) h = refl
  own_length (suc (suc zero)) h = refl
  own_length (suc (suc (suc zero))) h = refl
  own_length (suc (suc (suc (suc zero)))) h = refl
  own_length (suc (suc (suc (suc (suc d))))) h = absurd (omega arith)

  odd_used : (d : ℕ) → suc d < 5 → names_used (suc d) ≡ suc (d + d)
  unfolding names_used pick
  odd_used zero h = refl
  odd_used (suc zero) h = refl
  odd_used (suc (suc zero)) h = refl
  odd_used (suc (suc (suc zero))) h = refl
  odd_used (suc (suc (suc (suc d)))) h = absurd (omega arith)

  grown_length : (d : ℕ) (g : Key) → d < 5 → KeyOfDepth d g → length (g ++ own_names (suc d) n r) ≡ names_used (suc d)
  grown_length d g h e = rw (length-append, key-length d g e) (own_length d h)

  -- An element's key is a key of its depth,
  pub key_grows : (d : ℕ) (g : Key) → d < 5 → KeyOfDepth d g → are_levels (own_names (suc d) n r) ≡ true → KeyOfDepth (suc d) (g ++ own_names (suc d) n r)
  unfolding is_key own_names pick are_levels
  key_grows zero g h e l = rw e (is-key n [] zero h l refl (grown_length zero [] h refl), grown_length zero [] h refl, h)
  key_grows (suc d) [] h e l = absurd (false≢true e.0)
  key_grows (suc d) (x ∷ xs) h e l =
      let even : length xs ≡ d + d = let odd = odd_used d h in let long = e.1 in omega arith in
      let levels : are_levels xs ≡ true = and_l _ _ (and_r (is_name x) _ e.0) in
      let long = grown_length (suc d) (x ∷ xs) h e in
      (is-key x (xs ++ own_names (suc (suc d)) n r) (suc d) h (and_l _ _ e.0) (are_levels-append d xs _ even levels l) long, long, h)

  -- and its parent's key the parent of it.
  pub key-parent : (d : ℕ) (g : Key) → d < 5 → KeyOfDepth d g → parent_of (g ++ own_names (suc d) n r) ≡ g
  unfolding parent_of
  key-parent d g h e =
      let z : suc d - 1 ≡ d = omega arith in
      rw (depth_used (g ++ own_names (suc d) n r) d h (grown_length d g h e), z, ← key-length d g e) (take-append_seam _ _)
