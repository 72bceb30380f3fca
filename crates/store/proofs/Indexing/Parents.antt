-- Whether the parent of a row's key is live, told by the entity before the key's place.
use mathlib.Core.Path.{◌≡◌, refl, sym, ◌∙◌, ap, subst}
use mathlib.Core.Bool.{Bool, true, false}
use mathlib.Core.List.{List, [], ◌∷◌, ◌++◌}
use Prim.Native.Nat.{ℕ, zero, suc, ◌+◌, ◌-◌, ◌≤◌, ◌<◌}
use native.Mathlib.Omega.{arith}
use borrow.Author.Tests.{eq-eqb, ne_eqb, leb-true, leb-false}
use lib.Dec.{leb}
use lib.ListN.{length, get_or, take, drop}
use lib.Seq.{split_at, take-suc}
use Rattle.names.specs.Key.{Key, covers, depth_of, names_used, is_key, names_in}
use Rattle.names.specs.Pick.{pick}
use Rattle.names.proofs.KeyWalk.{names-length}
use Rattle.names.proofs.Tests.{and_l}
use Rattle.names.proofs.KeyDepth.{used_rises, used_beyond}
use Rattle.names.proofs.KeyForm.{depth_used}
use Rattle.store.specs.Change.{is_change, parent_of}
use Rattle.store.specs.code.Index.{Belongs, table_at, Indexed}
use Rattle.store.specs.code.Rows.{packed_at, depth_at, key_start, key_at, entity_at, change_at}
use Rattle.store.specs.Table.{Entity}
use Rattle.store.specs.code.Turn.{holds, rooted}
use Rattle.store.proofs.Tables.Closed.{Proper, Closed, Formed}
use Rattle.store.proofs.Tables.EveryEntity.{every_at, every_get_d}
use Rattle.store.proofs.Indexing.IndexLaws.{index_proper, entity-at}
use Rattle.store.proofs.Tables.Neighbour.{from_behind, parent_by_neighbour, parent-missing}
use Rattle.store.proofs.Tables.Ranks.{belongs_in, belongs_ahead, belongs_behind}
use Rattle.store.proofs.Tables.Sorted.{Ahead, Behind, Ascending}

-- A depth that uses names is one.
names_some : (d : ℕ) → 1 ≤ names_used d → (1 ≤ d) × (d ≤ 5)
names_some d h = go (leb d 5) refl
  where
    low : (d : ℕ) → 1 ≤ names_used d → 1 ≤ d
    low zero h = let z : names_used 0 ≡ 0 = unfold names_used pick in refl in absurd (omega arith)
    low (suc d) h = omega arith

    go : (t : Bool) → leb d 5 ≡ t → (1 ≤ d) × (d ≤ 5)
    go true e = (low d h, leb-true d 5 e)
    go false e = let z = used_beyond d (leb-false d 5 e) in absurd (omega arith)

-- Fewer names of the same bytes are the front of the key.
take-names : (m n : ℕ) (s : List ℕ) → m ≤ n → take m (names_in n s) ≡ names_in m s
unfolding names_in
take-names zero n s h = refl
take-names (suc m) zero s h = absurd (omega arith)
take-names (suc m) (suc n) [] h = ap (λ (k : Key). [] ∷ k) (take-names m n [] (omega arith))
take-names (suc m) (suc n) (l ∷ s) h = ap (λ (k : Key). take l s ∷ k) (take-names m n (drop l s) (omega arith))

-- The depth of a row's key is the row's.
module _ (ns bs : List ℕ) (c : ℕ) (f : is_change (change_at ns bs c) ≡ true) where
  key-formed : is_key (key_at ns bs c) ≡ true
  unfolding is_change
  key-formed = and_l (is_key (key_at ns bs c)) _ f

  pub key-length : length (key_at ns bs c) ≡ names_used (depth_at ns c)
  unfolding key_at
  key-length = names-length (names_used (depth_at ns c)) (drop (packed_at + key_start ns c) bs)

  depth-known : (1 ≤ depth_at ns c) × (depth_at ns c ≤ 5)
  unfolding is_key
  depth-known = names_some (depth_at ns c) (let l = key-length in let s = some_names (key_at ns bs c) key-formed in omega arith)
    where
      some_names : (k : Key) → is_key k ≡ true → 1 ≤ length k
      some_names [] e = let z : ◌≡◌ {A = ℕ} 0 1 = cc in absurd (omega arith)
      some_names (n ∷ k) e = omega arith

  pub row-deep : 1 ≤ depth_at ns c
  row-deep = depth-known.0

  pub row-depth : depth_of (key_at ns bs c) ≡ depth_at ns c
  row-depth = depth_used (depth_at ns c) (key_at ns bs c) depth-known.0 depth-known.1 key-length

  pub row-parent : (at : ℕ) → drop at bs ≡ drop (packed_at + key_start ns c) bs → parent_of (key_at ns bs c) ≡ names_in (names_used (depth_at ns c - 1)) (drop at bs)
  unfolding parent_of key_at
  row-parent at e =
      rw (row-depth, e)
      (take-names (names_used (depth_at ns c - 1)) (names_used (depth_at ns c)) (drop (packed_at + key_start ns c) bs)
      (used_rises (depth_at ns c - 1) (depth_at ns c) (omega arith) depth-known.1))

-- The parent by the entity before the place.
parent-at : (k : Key) (es : List Entity) (p : ℕ) → Proper es → Belongs k es p → (m : ℕ) (d : Entity) → suc m ≡ p → 1 < depth_of k
    → holds (parent_of k) es ≡ covers (parent_of k) (get_or es m d).key
parent-at k es p x b m d e deep =
    let i = belongs_in k es x.ascending p d b in
    let h : m < length es = omega arith in
    let w = split_at es m d h in
    let ahead : Ahead k (take m es ++ get_or es m d ∷ []) =
    subst (Ahead k) (take-suc es m d h) (subst (λ (j : ℕ). Ahead k (take j es)) (sym e) (belongs_ahead k es x.ascending p d b)) in
    let behind : Behind k (drop (suc m) es) = subst (λ (j : ℕ). Behind k (drop j es)) (sym e) (belongs_behind k es x.ascending p d b) in
    subst (λ (l : List Entity). holds (parent_of k) l ≡ covers (parent_of k) (get_or es m d).key) (sym w)
    (parent_by_neighbour (take m es) (get_or es m d) (drop (suc m) es) k (subst Ascending w x.ascending) (subst Closed w x.closed)
    (every_get_d Formed es m d h x.formed) (every_at _ (take m es) (get_or es m d) [] ahead) (from_behind k (drop (suc m) es) behind) deep)

rooted-deep : (es : List Entity) (k : Key) → 1 < depth_of k → rooted es k ≡ holds (parent_of k) es
unfolding rooted
rooted-deep es k h = rw (ne_eqb (depth_of k) 1 (λ q. omega arith))

module _ (ns bs : List ℕ) (c : ℕ) (index : List ℕ) (n p : ℕ) (x : Indexed ns bs c index n) (f : is_change (change_at ns bs c) ≡ true)
    (b : Belongs (key_at ns bs c) (table_at ns bs index n) p) (d : ℕ) (e : d ≡ depth_at ns c) where
  pub subject-rooted : d ≤ 1 → true ≡ rooted (table_at ns bs index n) (key_at ns bs c)
  unfolding rooted
  subject-rooted q = let r = row-depth ns bs c f in let s = row-deep ns bs c f in rw (eq-eqb (depth_of (key_at ns bs c)) 1 (omega arith))

  module _ (deep : 1 < d) where
    deeper : 1 < depth_of (key_at ns bs c)
    deeper = let r = row-depth ns bs c f in omega arith

    pub orphan_first : p < 1 → false ≡ rooted (table_at ns bs index n) (key_at ns bs c)
    orphan_first h =
        let es = table_at ns bs index n in
        let k = key_at ns bs c in
        let z : p ≡ 0 = omega arith in
        let behind : Behind k es = subst (λ (j : ℕ). Behind k (drop j es)) z (belongs_behind k es (index_proper ns bs c index n x).ascending p (entity_at ns bs 0) b) in
        let g = deeper in
        sym (rooted-deep es k deeper ∙ parent-missing k es (from_behind k es behind) (omega arith))

    pub rooted-told : (at h : ℕ) (t : Bool) → t ≡ covers (names_in h (drop at bs)) (key_at ns bs (get_or index (p - 1) 0)) → h ≡ names_used (d - 1)
        → drop at bs ≡ drop (packed_at + key_start ns c) bs → 1 ≤ p → p ≤ n → t ≡ rooted (table_at ns bs index n) (key_at ns bs c)
    rooted-told at h t q g r i w =
        let es = table_at ns bs index n in
        let k = key_at ns bs c in
        let before : p - 1 < n = omega arith in
        let u = parent-at k es p (index_proper ns bs c index n x) b (p - 1) (entity_at ns bs 0) (omega arith) deeper in
        q ∙ rw (g, e, ← row-parent ns bs c f at r) (sym (rooted-deep es k deeper ∙ u ∙ rw (entity-at ns bs c index n x (p - 1) before)))
