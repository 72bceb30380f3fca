-- The entities of a table one after another: each with its parts, and its parent open when its turn comes.
use mathlib.Core.Path.{◌≡◌, refl, sym, ◌∙◌, ap}
use mathlib.Core.Bool.{true, ◌||◌}
use mathlib.Core.List.{List, [], ◌∷◌}
use Prim.Native.Nat.{ℕ, suc, ◌-◌, ◌≤◌, min}
use native.Mathlib.Omega.{arith}
use lib.Dec.{eqb, lit≤}
use lib.ListN.{length, take}
use Rattle.names.specs.Bytes.{all}
use Rattle.names.specs.Key.{Key, depth_of, names_used, covers, is_key}
use Rattle.names.specs.Name.{is_value}
use Rattle.names.specs.Pick.{pick}
use Rattle.names.proofs.Tests.{and_l, and_r}
use Rattle.store.specs.Change.{make, change, is_item, is_null, is_change, value_fits, parent_of}
use Rattle.store.specs.Table.{Entity}
use Rattle.snapshot.proofs.Facts.{nested, TableFacts}
use Rattle.snapshot.proofs.KeyLevels.{BelowDepth, fits, agrees, as_deep}
use Rattle.store.proofs.Tables.Size.{makes_of}

-- The entity's parent has depth j, and is open where the innermost open entity has depth o and stands on the way to `last`.
pub record ParentOpen (o : ℕ) (last : Key) (j : ℕ) (e : Entity) : Type 0 where
  pub key : BelowDepth j e.key
  pub value : is_value e.value ≡ true
  pub item : (eqb (suc j) 5 || is_null e.value) ≡ true
  pub along : take (names_used j) last ≡ take (names_used j) e.key
  pub deep : j ≤ o

pub data Chained : ℕ → Key → List Entity → Type 0 where
  no_more : {o : ℕ} {last : Key} → Chained o last []
  next : {o : ℕ} {last : Key} {e : Entity} {es : List Entity} → ParentOpen o last (depth_of e.key - 1) e
      → Chained (min (suc (depth_of e.key - 1)) 4) e.key es → Chained o last (e ∷ es)

chained : (es : List Entity) (o : ℕ) (last : Key) → o ≡ min (depth_of last) 4 → length last ≡ names_used (depth_of last) → depth_of last ≤ 5
    → all is_change (makes_of es) ≡ true → nested last es ≡ true → Chained o last es
unfolding makes_of nested all is_change value_fits is_item
chained [] o last w n b a c = no_more
chained (e ∷ es) o last w n b a c =
    let k = e.key in
    let j = depth_of k - 1 in
    let form = and_r (is_key k) _ (and_l _ _ a) in
    let t : BelowDepth j k = fits k (and_l _ _ (and_l _ _ a)) in
    let along : take (names_used j) last ≡ take (names_used j) k = agrees j k last t (and_l _ _ c) in
    let deep : j ≤ depth_of last = as_deep j (depth_of last) k last t n b along in
    let here : ParentOpen o last j e =
    record { key = t; value = and_l _ _ form; item = rw t.depth at (and_r (is_value e.value) _ form); along = along; deep = omega (arith, t.below) } in
    next here
    (chained es (min (suc j) 4) k (ap (λ d. min d 4) (sym t.depth)) (t.count ∙ ap names_used (sym t.depth)) (omega (arith, t.below, t.depth))
    (and_r (is_change (change make k e.value)) _ a) (and_r (covers (parent_of k) last) _ c))

-- All of them: first nothing is open but ClinicalData.
pub all_chained : (es : List Entity) → TableFacts es → Chained 0 [] es
unfolding depth_of names_used pick
all_chained es f = chained es 0 [] refl refl (lit≤ tt) f.forms f.nests
