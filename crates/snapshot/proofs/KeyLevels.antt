-- The parts of a key: its depth, and its own names behind those of its parent.
use mathlib.Core.Path.{◌≡◌, refl, sym, ◌∙◌, ap}
use mathlib.Core.Bool.{true, false, false≢true}
use mathlib.Core.List.{[], ◌∷◌}
use Prim.Native.Nat.{ℕ, zero, suc, ◌-◌, ◌<◌, ◌≤◌}
use native.Mathlib.Decide.{ℕ_discrete, dec_le}
use native.Mathlib.Nat.{not-suc-le-zero}
use native.Mathlib.Omega.{arith}
use lib.Dec.{eqb, lit<, lit≤}
use borrow.Author.Tests.{ne_eqb}
use lib.ListN.{length, take, drop, get_or, length-take}
use Rattle.names.specs.Key.{Key, names_used, depth_of, covers, is_repeat, are_levels, is_key, own_names}
use Rattle.names.specs.Name.{is_name}
use Rattle.names.specs.Pick.{pick}
use Rattle.names.proofs.Tests.{and_l, and_r}
use Rattle.names.proofs.Ordered.{covers-take}
use Rattle.store.specs.Change.{parent_of}

-- The parent of a key has depth j.
pub record BelowDepth (j : ℕ) (k : Key) : Type 0 where
  pub depth : depth_of k ≡ suc j
  pub below : j ≤ 4
  pub count : length k ≡ names_used (suc j)
  pub oid : is_name (get_or (drop (names_used j) k) 0 []) ≡ true
  pub rep : is_repeat (get_or (drop (names_used j) k) 1 []) ≡ true
  pub own : drop (names_used j) k ≡ own_names (suc j) (get_or (drop (names_used j) k) 0 []) (get_or (drop (names_used j) k) 1 [])

-- No depth uses more than eight names.
too_long_lem : (k : Key) → 8 < length k → eqb (names_used (depth_of k)) (length k) ≡ false
unfolding names_used depth_of pick
too_long_lem k h =
    rw (
      ne_eqb (length k) 1 (λ q. omega arith),
      ne_eqb (length k) 3 (λ q. omega arith),
      ne_eqb (length k) 5 (λ q. omega arith),
      ne_eqb (length k) 7 (λ q. omega arith),
      ne_eqb (length k) 8 (λ q. omega arith),
    )
    (ne_eqb 0 (length k) (λ q. omega arith))

pub fits : (k : Key) → is_key k ≡ true → BelowDepth (depth_of k - 1) k
unfolding is_key are_levels depth_of names_used own_names is_repeat pick
fits [] e = absurd (false≢true e)
fits (a ∷ []) e = record { depth = refl; below = lit≤ tt; count = refl; oid = and_l (is_name a) _ e; rep = refl; own = refl }
fits (a ∷ b ∷ []) e = absurd (false≢true (and_r (are_levels (b ∷ [])) _ (and_r (is_name a) _ e)))
fits (a ∷ b ∷ c ∷ []) e =
    let l = and_l (are_levels (b ∷ c ∷ [])) _ (and_r (is_name a) _ e) in
    record { depth = refl; below = lit≤ tt; count = refl; oid = and_l (is_name b) _ l; rep = and_l (is_repeat c) _ (and_r (is_name b) _ l); own = refl }
fits (a ∷ b ∷ c ∷ f ∷ []) e = absurd (false≢true (and_r (are_levels (b ∷ c ∷ f ∷ [])) _ (and_r (is_name a) _ e)))
fits (a ∷ b ∷ c ∷ f ∷ g ∷ []) e =
    let l = and_r (is_repeat c) _ (and_r (is_name b) _ (and_l (are_levels (b ∷ c ∷ f ∷ g ∷ [])) _ (and_r (is_name a) _ e))) in
    record { depth = refl; below = lit≤ tt; count = refl; oid = and_l (is_name f) _ l; rep = and_l (is_repeat g) _ (and_r (is_name f) _ l); own = refl }
fits (a ∷ b ∷ c ∷ f ∷ g ∷ h ∷ []) e = absurd (false≢true (and_r (are_levels (b ∷ c ∷ f ∷ g ∷ h ∷ [])) _ (and_r (is_name a) _ e)))
fits (a ∷ b ∷ c ∷ f ∷ g ∷ h ∷ i ∷ []) e =
    let l = and_r (is_repeat c) _ (and_r (is_name b) _ (and_l (are_levels (b ∷ c ∷ f ∷ g ∷ h ∷ i ∷ [])) _ (and_r (is_name a) _ e))) in
    let n = and_r (is_repeat g) _ (and_r (is_name f) _ l) in
    record { depth = refl; below = lit≤ tt; count = refl; oid = and_l (is_name h) _ n; rep = and_l (is_repeat i) _ (and_r (is_name h) _ n); own = refl }
fits (a ∷ b ∷ c ∷ f ∷ g ∷ h ∷ i ∷ j ∷ []) e =
    let l = and_r (is_repeat c) _ (and_r (is_name b) _ (and_l (are_levels (b ∷ c ∷ f ∷ g ∷ h ∷ i ∷ j ∷ [])) _ (and_r (is_name a) _ e))) in
    let n = and_r (is_repeat g) _ (and_r (is_name f) _ l) in
    record { depth = refl; below = lit≤ tt; count = refl; oid = and_r (is_repeat i) _ (and_r (is_name h) _ n); rep = refl; own = refl }
fits (a ∷ b ∷ c ∷ f ∷ g ∷ h ∷ i ∷ j ∷ k ∷ ks) e =
    let q = and_r (are_levels (b ∷ c ∷ f ∷ g ∷ h ∷ i ∷ j ∷ k ∷ ks)) _ (and_r (is_name a) _ e) in
    absurd (false≢true (sym (too_long_lem (a ∷ b ∷ c ∷ f ∷ g ∷ h ∷ i ∷ j ∷ k ∷ ks) (omega arith)) ∙ q))

-- Each depth uses more names than the one above.
grows : (j : ℕ) → j ≤ 4 → names_used j < names_used (suc j)
unfolding names_used pick
grows zero b = lit< tt
grows (suc zero) b = lit< tt
grows (suc (suc zero)) b = lit< tt
grows (suc (suc (suc zero))) b = lit< tt
grows (suc (suc (suc (suc zero)))) b = lit< tt
grows (suc (suc (suc (suc (suc j))))) b = absurd (omega arith)

pub names-at-most : (j : ℕ) → j ≤ 4 → names_used j ≤ names_used (suc j)
names-at-most j b = omega (arith, grows j b)

pub deeper_longer : (i j : ℕ) → j ≤ 5 → i < j → names_used i < names_used j
deeper_longer i zero b l = absurd (not-suc-le-zero l)
deeper_longer i (suc j) b l =
    elim (ℕ_discrete i j) [
      | yes q ↦ rw q (grows j (omega arith))
      | no q ↦ omega (arith, grows j (omega arith), deeper_longer i j (omega arith) (omega arith))
    ]

-- A key whose parent's key another begins with: they agree so far, and the other is as deep as the parent.
pub agrees : (j : ℕ) (k last : Key) → BelowDepth j k → covers (parent_of k) last ≡ true → take (names_used j) last ≡ take (names_used j) k
unfolding parent_of
agrees j k last t e =
    let z : suc j - 1 ≡ j = omega arith in
    let l : length (take (names_used j) k) ≡ names_used j = rw (length-take, t.count) (omega (arith, names-at-most j t.below)) in
    rw l at (covers-take (take (names_used j) k) last (rw (t.depth, z) at e))

pub as_deep : (j d : ℕ) (k last : Key) → BelowDepth j k → length last ≡ names_used d → d ≤ 5 → take (names_used j) last ≡ take (names_used j) k → j ≤ d
as_deep j d k last t n b e =
    elim (dec_le j d) [
      | yes q ↦ q
      | no q ↦
          let g : d < j = omega arith in
          let l : length (take (names_used j) last) ≡ length (take (names_used j) k) = ap length e in
          let below = t.below in
          absurd (omega (arith, simp length-take at l, deeper_longer d j (omega arith) g, names-at-most j below, t.count))
    ]
