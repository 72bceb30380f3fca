-- What the invariant says of the innermost open element, and of one that opens in it.
use mathlib.Core.Path.{◌≡◌, sym, subst, ◌∙◌}
use mathlib.Core.Bool.{true, false≢true}
use mathlib.Core.List.{List, [], ◌∷◌}
use Prim.Native.Nat.{ℕ, zero, suc, ◌≤◌}
use native.Mathlib.Omega.{arith}
use lib.ListN.{length}
use Rattle.store.specs.Change.{Change, live}
use Rattle.reader.specs.Tag.{Attr}
use Rattle.reader.specs.Element.{element_at, may_stand}
use Rattle.reader.specs.code.Placed.{Placed, Bodied}
use Rattle.reader.specs.Judge.{Frame, key_here, value_by, given_by}
use Rattle.reader.specs.code.Keeping.{KeyOfDepth, Open, Stack, Fits}
use Rattle.reader.proofs.Forms.{stands-few, entry}
use Rattle.reader.proofs.Invariant.{fits}

-- An entity's element that is well placed fits those that are open.
pub fits_here : (past : List Change) (fs : List Frame) (e : ℕ) (l : List Attr) (b : List ℕ) (d : ℕ) → length fs ≡ suc d → Stack past fs → may_stand (suc (suc d)) e ≡ true → Placed e l
    → Bodied (element_at e).body b → Fits past d (key_here (suc d) fs l) (value_by (element_at e).body l b) (given_by (element_at e).body l)
fits_here past [] e l b d q s m p h = let z : ◌≡◌ {A = ℕ} 0 (suc d) = q in absurd (omega arith)
fits_here past (f ∷ fs) e l b d q s m p h =
    let few = stands-few (suc (suc d)) e m in
    let c : length fs ≡ d = omega arith in
    subst (λ (x : ℕ). Fits past x (key_here (suc x) (f ∷ fs) l) (value_by (element_at e).body l b) (given_by (element_at e).body l)) c
    (fits past f fs (element_at e).body l b s (omega arith) (entry (length fs) e l b (rw c m) p h))

-- The innermost of them, where its closing tag adds an end, is a live entity's.
pub ending-live : (past : List Change) (f : Frame) (fs : List Frame) (d : ℕ) → length fs ≡ d → Stack past (f ∷ fs) → f.ending ≡ true
    → (1 ≤ d) × KeyOfDepth d f.key × (live past f.key ≡ true)
ending-live past f fs d q s e = go d (subst (λ (x : ℕ). Open past x f) q s.0)
  where
    go : (d : ℕ) → Open past d f → (1 ≤ d) × KeyOfDepth d f.key × (live past f.key ≡ true)
    go zero o = absurd (false≢true (sym o.1 ∙ e))
    go (suc d) o = (omega arith, o.0, o.1)
