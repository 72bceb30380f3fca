-- The index: rows whose entities are the table of the first changes, so in key order.
use mathlib.Core.Path.{◌≡◌, sym, ◌∙◌, ap}
use mathlib.Core.Bool.{Bool, true, false}
use mathlib.Core.List.{List, [], ◌∷◌}
use Prim.Native.Nat.{ℕ, zero, suc, ◌+◌, ◌≤◌, ◌<◌}
use native.Mathlib.Nat.{not-suc-le-zero, le_of_suc-le-suc}
use native.Mathlib.Numerals.{add-one}
use native.Mathlib.Omega.{arith}
use borrow.Author.Tests.{ltb-true}
use Rattle.std.specs.Prelude.{Result, Ok, Err}
use lib.Dec.{ltb}
use lib.ListN.{length, get_or, take, drop, length-map, get_or-map, drop_of_length-le}
use lib.Seq.{length-take-le, get_or-take, drop-cons}
use Rattle.std.specs.declared.cmp.Ordering.{Ordering}
use Rattle.std.specs.declared.cmp.Ordering.TheVariants.{Less, Equal, Greater}
use Rattle.names.specs.Bytes.{all}
use Rattle.names.specs.Key.{Key, key_order, covers, names_used, names_in}
use Rattle.names.specs.Pick.{pick}
use Rattle.names.proofs.Tests.{and_l, and_r}
use Rattle.store.specs.code.Index.{rank, rank_behind, position_in, covered_run, table_at, ListedRows, Indexed}
use Rattle.store.specs.Machine.{changes_most}
use Rattle.store.specs.code.Rows.{packed_at, depth_at, key_start, key_at, entity_at, entities_at, first_changes}
use Rattle.store.specs.Table.{Entity}
use Rattle.store.proofs.Tables.Closed.{Proper, table_proper}
use Rattle.store.proofs.Tables.Ranks.{found_stands, found_belongs, rank_past, rank_here, rank-before, stands_found, belongs_found, nothing_between, up_to-within, stands_in, belongs_in}

-- The key of a row, read at its place with its count of names.
module _ (ns bs : List ℕ) (r at n : ℕ) (e : drop at bs ≡ drop (packed_at + key_start ns r) bs) (f : n ≡ names_used (depth_at ns r)) where
  row-key : names_in n (drop at bs) ≡ key_at ns bs r
  unfolding key_at
  row-key = rw (e, f)

  pub row-ordered : (o : Ordering) (k : Key) → o ≡ key_order (names_in n (drop at bs)) k → o ≡ key_order (key_at ns bs r) k
  row-ordered o k g = g ∙ rw row-key

  pub row_covered : (t : Bool) (k : Key) → t ≡ covers k (names_in n (drop at bs)) → t ≡ covers k (key_at ns bs r)
  row_covered t k g = g ∙ rw row-key

  pub row_found : (f : Result ℕ ℕ) (es : List Entity) → f ≡ position_in (names_in n (drop at bs)) es → f ≡ position_in (key_at ns bs r) es
  row_found f es g = g ∙ rw row-key

  pub row-run : (q f : ℕ) (es : List Entity) → q ≡ f + covered_run (names_in n (drop at bs)) es → q ≡ f + covered_run (key_at ns bs r) es
  row-run q f es g = g ∙ rw row-key

all-below : (c : ℕ) (l : List ℕ) (m : ℕ) → all (λ r. ltb r c) l ≡ true → m < length l → get_or l m 0 < c
unfolding all
all-below c [] m e h = absurd (not-suc-le-zero h)
all-below c (x ∷ l) zero e h = ltb-true x c (and_l _ _ e)
all-below c (x ∷ l) (suc m) e h = all-below c l m (and_r (ltb x c) _ e) (le_of_suc-le-suc h)

-- The rows alone.
module _ (c : ℕ) (index : List ℕ) (n : ℕ) (x : ListedRows c index n) where
  pub listing_long : n ≤ length index
  listing_long = let a = x.few in let b = x.long in omega arith

  pub listing_row : (m : ℕ) → m < n → get_or index m 0 < c
  listing_row m h = rw (← get_or-take n index m 0 h) (all-below c (take n index) m x.below (rw (length-take-le n index listing_long) h))

module _ (ns bs : List ℕ) (c : ℕ) (index : List ℕ) (n : ℕ) (x : Indexed ns bs c index n) where
  long-enough : n ≤ length index
  long-enough = listing_long c index n x.rows

  pub table-length : length (table_at ns bs index n) ≡ n
  unfolding entities_at
  table-length = length-map (take n index) (entity_at ns bs) ∙ length-take-le n index long-enough

  pub index_fits : (m : ℕ) → m < n → c ≤ changes_most → get_or index m 0 < changes_most
  index_fits m h f = let r = listing_row c index n x.rows m h in omega arith

  pub entity-at : (m : ℕ) → m < n → get_or (table_at ns bs index n) m (entity_at ns bs 0) ≡ entity_at ns bs (get_or index m 0)
  unfolding entities_at
  entity-at m h = get_or-map (entity_at ns bs) (take n index) m 0 ∙ ap (entity_at ns bs) (get_or-take n index m 0 h)

  pub index_proper : Proper (table_at ns bs index n)
  index_proper = rw x.says (table_proper (first_changes ns bs c) x.lawful)

  pub within : (m : ℕ) → m < n → m < length (table_at ns bs index n)
  within m h = rw table-length h

  pub up_to-all : (k : Key) → rank_behind k (table_at ns bs index n) ≤ n
  up_to-all k = let a = up_to-within k (table_at ns bs index n) in let b = table-length in omega arith

  -- A place that a search found.
  pub at-within : (k : Key) (f : Result ℕ ℕ) (p : ℕ) → f ≡ position_in k (table_at ns bs index n) → f ≡ Ok p → p < n
  at-within k f p e g =
      let h = stands_in k (table_at ns bs index n) index_proper.ascending p (entity_at ns bs 0) (found_stands k (table_at ns bs index n) f e p g) in
      let l = table-length in
      omega arith

  pub place-within : (k : Key) (f : Result ℕ ℕ) (p : ℕ) → f ≡ position_in k (table_at ns bs index n) → f ≡ Err p → p ≤ n
  place-within k f p e g =
      let h = belongs_in k (table_at ns bs index n) index_proper.ascending p (entity_at ns bs 0) (found_belongs k (table_at ns bs index n) f e p g) in
      let l = table-length in
      omega arith

  -- One comparison, at a place before hi.
  module _ (k : Key) (m hi : ℕ) (g : m < hi) (i : hi ≤ n) (o : Ordering) (e : o ≡ key_order (key_at ns bs (get_or index m 0)) k) where
    h : m < n
    h = omega arith

    told : (p : Ordering) → o ≡ p → key_order (get_or (table_at ns bs index n) m (entity_at ns bs 0)).key k ≡ p
    told p f = rw (entity-at m h) (sym e ∙ f)

    pub order_past : o ≡ Less → m + 1 ≤ rank k (table_at ns bs index n)
    order_past f = rank_past k (table_at ns bs index n) index_proper.ascending m (entity_at ns bs 0) (within m h) (told Less f)

    pub order_here : o ≡ Equal → Ok m ≡ position_in k (table_at ns bs index n)
    order_here f = stands_found k (table_at ns bs index n) m (rank_here k (table_at ns bs index n) index_proper.ascending m (entity_at ns bs 0) (within m h) (told Equal f))

    pub order-before : o ≡ Greater → rank_behind k (table_at ns bs index n) ≤ m
    order-before f = rank-before k (table_at ns bs index n) index_proper.ascending m (entity_at ns bs 0) (within m h) (told Greater f)

  -- The run of covered keys.
  module _ (k : Key) (q : ℕ) where
    rest_at : q < n → drop q (table_at ns bs index n) ≡ entity_at ns bs (get_or index q 0) ∷ drop (q + 1) (table_at ns bs index n)
    rest_at h = rw (add-one, drop-cons (table_at ns bs index n) q (entity_at ns bs 0) (within q h), entity-at q h)

    module _ (h : q < n) (t : Bool) (e : t ≡ covers k (key_at ns bs (get_or index q 0))) where
      pub run_on : t ≡ true → covered_run k (drop q (table_at ns bs index n)) ≡ 1 + covered_run k (drop (q + 1) (table_at ns bs index n))
      unfolding covered_run pick
      run_on f = rw (rest_at h, ← e, f, covered_run) (omega arith)

      pub run_stop : t ≡ false → covered_run k (drop q (table_at ns bs index n)) ≡ 0
      unfolding covered_run pick
      run_stop f = rw (rest_at h, ← e, f, covered_run)

    pub run_past : n ≤ q → covered_run k (drop q (table_at ns bs index n)) ≡ 0
    unfolding covered_run
    run_past h =
        let a : length (table_at ns bs index n) ≤ q = let b = table-length in omega arith in
        rw (drop_of_length-le (table_at ns bs index n) a)

-- Where a low and a high place meet, the key is not there.
pub search_ended : (k : Key) (ns bs index : List ℕ) (n lo hi : ℕ) → lo ≤ rank k (table_at ns bs index n) → rank_behind k (table_at ns bs index n) ≤ hi → hi ≤ lo
    → Err lo ≡ position_in k (table_at ns bs index n)
search_ended k ns bs index n lo hi l h m = belongs_found k (table_at ns bs index n) lo (nothing_between k (table_at ns bs index n) lo hi l h m)
