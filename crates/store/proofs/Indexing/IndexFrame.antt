-- The index of the first changes says the same of other buffers in which the same changes stand first.
use mathlib.Core.Path.{◌≡◌, refl, sym, ◌∙◌, ap}
use mathlib.Core.Bool.{true}
use mathlib.Core.List.{List, [], ◌∷◌, ◌++◌}
use Prim.Native.Nat.{ℕ, suc, ◌≤◌, ◌<◌}
use borrow.Author.Tests.{ltb-true}
use lib.Dec.{ltb}
use lib.ListN.{length, take, drop}
use lib.Seq.{drop_at}
use Rattle.names.specs.Bytes.{all}
use Rattle.names.proofs.Tests.{and_l, and_r}
use Rattle.store.specs.Change.{Change}
use Rattle.store.specs.code.Index.{Indexed}
use Rattle.store.specs.code.Rows.{change_at, entity_at, entities_at, first_changes}
use Rattle.store.specs.Table.{entity, table}
use Rattle.store.proofs.Layouts.ChangesLaid.{first_changes-length, first_changes-take}

-- The last of two lists that are equal.
pub last_same : (xs ys : List Change) (x y : Change) → length xs ≡ length ys → xs ++ x ∷ [] ≡ ys ++ y ∷ [] → x ≡ y
last_same xs ys x y l e =
    let d : x ∷ [] ≡ y ∷ [] =
    sym (drop_at xs (x ∷ []) (length xs) refl) ∙ ap (drop (length xs)) e ∙ drop_at ys (y ∷ []) (length xs) (sym l) in
    cc

module _ (ns bs ns' bs' : List ℕ) (c : ℕ) (same : first_changes ns' bs' c ≡ first_changes ns bs c) where
  first-same : (i : ℕ) → i ≤ c → first_changes ns' bs' i ≡ first_changes ns bs i
  first-same i h = sym (first_changes-take ns' bs' i c h) ∙ ap (take i) same ∙ first_changes-take ns bs i c h

  change-same : (i : ℕ) → i < c → change_at ns' bs' i ≡ change_at ns bs i
  unfolding first_changes
  change-same i h =
      last_same (first_changes ns' bs' i) (first_changes ns bs i) _ _ (first_changes-length ns' bs' i ∙ sym (first_changes-length ns bs i))
      (first-same (suc i) h)

  entity-same : (i : ℕ) → i < c → entity_at ns' bs' i ≡ entity_at ns bs i
  entity-same i h = ap (λ (x : Change). entity x.key x.value) (change-same i h)

  entities-same : (rows : List ℕ) → all (λ r. ltb r c) rows ≡ true → entities_at ns' bs' rows ≡ entities_at ns bs rows
  unfolding entities_at all
  entities-same [] e = refl
  entities-same (r ∷ rows) e =
      let here = entity-same r (ltb-true r c (and_l _ _ e)) in
      let rest = entities-same rows (and_r (ltb r c) _ e) in
      rw (here, rest)

  pub indexed-same : (index : List ℕ) (n : ℕ) → Indexed ns bs c index n → Indexed ns' bs' c index n
  indexed-same index n x =
      record {
        rows = x.rows;
        says = entities-same (take n index) x.rows.below ∙ x.says ∙ sym (ap table same);
        lawful = rw same x.lawful;
      }
