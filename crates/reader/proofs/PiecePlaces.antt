-- A place that stands for what follows a piece of the file, or for "no such piece": how it is made, and what it says.
use mathlib.Core.Path.{◌≡◌, refl, sym, ◌∙◌}
use mathlib.Core.Bool.{Bool, true, false}
use mathlib.Core.List.{List, [], ◌∷◌}
use mathlib.Core.Option.{Option, none, some}
use Rattle.std.specs.Prelude.{Some, None}
use Prim.Native.Nat.{ℕ, suc, ◌+◌, ◌-◌, ◌≤◌, ◌<◌}
use native.Mathlib.Omega.{arith}
use lib.Dec.{eqb, ltb}
use lib.ListN.{length, get_or, drop, length-drop}
use borrow.Author.Tests.{ltb-true, ltb-false, eq-eqb, ne_eqb}
use Rattle.names.specs.Pick.{pick}
use Rattle.names.specs.Scan.{after}
use Rattle.names.specs.code.Scanned.{Scanned}
use Rattle.names.proofs.ScanLaws.{scan_moves}
use Rattle.names.proofs.Tests.{not_then}
use Rattle.names.proofs.Walk.{drop_here, drop_past}
use Rattle.reader.specs.Tag.{strip, first_is}
use Rattle.reader.specs.code.Places.{rest_of, Behind}
use Rattle.reader.proofs.TagLengths.{strip-length}

module _ (s : List ℕ) (at : ℕ) (o : Option (List ℕ)) where
  pub behind_some : (r : ℕ) → Behind s at (Some r) o → o ≡ some (drop r s)
  unfolding rest_of
  behind_some r p = sym p.is

  pub behind_no : Behind s at None o → o ≡ none
  unfolding rest_of
  behind_no p = sym p.is

-- One byte.
module _ (s : List ℕ) (at q : ℕ) where
  pub behind-end : length s ≤ at → Behind s at None (strip (q ∷ []) (drop at s))
  unfolding strip rest_of
  behind-end h = record { is = rw (drop_past s at h); within = tt }

  pub behind-yes : at < length s → get_or s at 0 ≡ q → Behind s at (Some (at + 1)) (strip (q ∷ []) (drop at s))
  unfolding strip pick rest_of
  behind-yes h e = record { is = rw (drop_here s at h, eq-eqb q (get_or s at 0) (sym e)); within = (omega arith, omega arith) }

  pub behind-other : at < length s → (get_or s at 0 ≡ q → ⊥) → Behind s at None (strip (q ∷ []) (drop at s))
  unfolding strip pick rest_of
  behind-other h n = record { is = rw (drop_here s at h, ne_eqb q (get_or s at 0) (λ e. n (sym e))); within = tt }

pub ruleset behind-cases = (behind-end, behind-yes, behind-other)

-- What follows a byte is one place on.
pub behind_one : (s : List ℕ) (at r q : ℕ) → Behind s at (Some r) (strip (q ∷ []) (drop at s)) → r ≡ at + 1
behind_one s at r q p =
    let l : length s - at ≡ 1 + (length s - r) = simp length-drop at (strip-length (q ∷ []) (drop at s) (drop r s) (behind_some s at (strip (q ∷ []) (drop at s)) r p)) in
    let k = p.within in
    omega arith

-- A text is stripped byte by byte.
module _ (q : ℕ) (w l : List ℕ) where
  pub strip_none : strip (q ∷ []) l ≡ none → strip (q ∷ w) l ≡ none
  unfolding strip pick
  strip_none e = go l e
    where
      go : (l : List ℕ) → strip (q ∷ []) l ≡ none → strip (q ∷ w) l ≡ none
      go [] e = refl
      go (c ∷ l) e = by (eqb q c) e
        where
          by : (b : Bool) → pick b (some l) none ≡ none → pick b (strip w l) none ≡ none
          by true e = let z : ◌≡◌ {A = ℕ} 0 1 = cc in absurd (omega arith)
          by false e = refl

  pub strip-on : (t : List ℕ) → strip (q ∷ []) l ≡ some t → strip (q ∷ w) l ≡ strip w t
  unfolding strip pick
  strip-on t e = go l e
    where
      go : (l : List ℕ) → strip (q ∷ []) l ≡ some t → strip (q ∷ w) l ≡ strip w t
      go [] e = let z : ◌≡◌ {A = ℕ} 0 1 = cc in absurd (omega arith)
      go (c ∷ l) e = by (eqb q c) e
        where
          by : (b : Bool) → pick b (some l) none ≡ some t → pick b (strip w l) none ≡ strip w t
          by true e = let z : l ≡ t = cc in rw z
          by false e = let z : ◌≡◌ {A = ℕ} 0 1 = cc in absurd (omega arith)

-- A scan moved exactly if the first byte passes its test.
module _ (p : ℕ → Bool) (s : List ℕ) (at r : ℕ) (w : Scanned p s at r) where
  pub scan_first : at < r → first_is p (drop at s) ≡ true
  unfolding first_is after pick
  scan_first h =
      let k = w.high in
      let l : at < length s = omega arith in
      go (p (get_or s at 0)) refl l
    where
      go : (b : Bool) → p (get_or s at 0) ≡ b → at < length s → first_is p (drop at s) ≡ true
      go true e l = rw (drop_here s at l) e
      go false e l =
          let q : drop r s ≡ get_or s at 0 ∷ drop (at + 1) s = w.left ∙ rw (drop_here s at l, e) in
          let m : length (drop r s) ≡ length (get_or s at 0 ∷ drop (at + 1) s) = rw q in
          let n : length s - r ≡ suc (length s - (at + 1)) = simp length-drop at m in
          absurd (omega arith)

  pub scan_still : r ≤ at → first_is p (drop at s) ≡ false
  unfolding first_is
  scan_still h = go (ltb at (length s)) refl
    where
      go : (b : Bool) → ltb at (length s) ≡ b → first_is p (drop at s) ≡ false
      go false e = let l = ltb-false at (length s) e in rw (drop_past s at l)
      go true e =
          let l : at < length s = ltb-true at (length s) e in
          rw (drop_here s at l) (not_then (p (get_or s at 0)) (λ f. let k = scan_moves p s at r w l f in omega arith))
