-- The last of a list, and the last standing file.
use mathlib.Core.Path.{◌≡◌, refl, ap}
use mathlib.Core.Bool.{◌||◌}
use mathlib.Core.List.{List, [], ◌∷◌, ◌++◌}
use mathlib.Core.Logic.{◌⊎◌, inl, inr, ⊎_elim}
use mathlib.Core.Option.{some}
use Prim.Native.Nat.{ℕ}
use Rattle.names.specs.Order.{same}
use Rattle.store.specs.Calls.{without_last}
use Rattle.store.specs.Machine.{Filed, standing, last_filed}
use Rattle.store.proofs.Lists.Appending.{any_append}

module _ {A : Type 0} where
  pub without_last_snoc : (xs : List A) (x : A) → without_last (xs ++ x ∷ []) ≡ xs
  unfolding without_last
  without_last_snoc [] x = refl
  without_last_snoc (y ∷ []) x = refl
  without_last_snoc (y ∷ z ∷ xs) x = ap (λ (l : List A). y ∷ l) (without_last_snoc (z ∷ xs) x)

  -- A list is empty, or has a last element.
  pub last_split : (xs : List A) → (xs ≡ []) ⊎ ((ys : List A) × (y : A) × (xs ≡ ys ++ y ∷ []))
  last_split [] = inl refl
  last_split (x ∷ xs) = inr (⊎_elim (λ e. ([], x, ap (λ (l : List A). x ∷ l) e)) (λ w. (x ∷ w.0, w.1, ap (λ (l : List A). x ∷ l) w.2)) (last_split xs))

pub last_filed_snoc : (fs : List Filed) (f : Filed) → last_filed (fs ++ f ∷ []) ≡ some f
unfolding last_filed
last_filed_snoc [] f = refl
last_filed_snoc (g ∷ []) f = refl
last_filed_snoc (g ∷ h ∷ fs) f = last_filed_snoc (h ∷ fs) f

-- A FileOID stands among the files in front or among those behind.
pub standing-append : (oid : List ℕ) (gs hs : List Filed) → standing oid (gs ++ hs) ≡ (standing oid gs || standing oid hs)
unfolding standing
standing-append oid gs hs = any_append (λ (f : Filed). same oid f.oid) gs hs
