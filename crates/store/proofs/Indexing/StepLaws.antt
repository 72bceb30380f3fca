-- One change, as the code applies it to the index.
use mathlib.Core.Logic.{◌⊎◌, inl, inr}
use mathlib.Core.Path.{◌≡◌, sym, ap, ◌∙◌}
use mathlib.Core.Bool.{Bool, true, false}
use mathlib.Core.List.{List, []}
use Prim.Native.Nat.{ℕ, suc, ◌+◌, ◌-◌, ◌≤◌, ◌<◌}
use native.Mathlib.Numerals.{add-one}
use native.Mathlib.Omega.{arith}
use borrow.Author.Tests.{ltb-true, lt-ltb, le-ltb}
use lib.Dec.{ltb}
use lib.ListN.{length, take, drop, set, length-set}
use lib.Seq.{take-set-lt}
use Rattle.names.specs.Bytes.{all}
use Rattle.names.specs.Key.{Key, names_used, names_in}
use Rattle.names.specs.Pick.{◌and◌}
use Rattle.names.proofs.Tests.{and_i, all_implied, and_false}
use Rattle.store.specs.Change.{make, write, end, change, Value, is_change}
use Rattle.store.specs.Image.{kind_of}
use Rattle.store.specs.code.Deciding.{kind_said}
use Rattle.store.specs.declared.decide.Kind.{Kind as Said}
use Rattle.store.specs.declared.decide.Kind.TheVariants.{Write, End}
use Rattle.store.specs.code.Index.{Stands, Belongs, covered_run, inserted, removed, table_at, Indexed}
use Rattle.store.specs.Machine.{live_most, in_turn}
use Rattle.store.specs.code.Rows.{packed_at, kind_at, depth_at, key_start, key_at, value_at, entity_at, entities_at, change_at, first_changes}
use Rattle.store.specs.Table.{Entity, applied, table}
use Rattle.store.specs.code.Turn.{holds, rooted, changed, turn}
use Rattle.store.proofs.Indexing.IndexLaws.{row-run, table-length, index_proper}
use Rattle.store.proofs.Tables.InTurn.{in_turn_snoc, table-changed}
use Rattle.store.proofs.Tables.Ranks.{put-at, revalue-at, without_at}
use Rattle.store.proofs.Indexing.Shift.{map-set, map-inserted, map-removed, all_set, all_inserted, all-removed}
use Rattle.store.proofs.Tables.TurnOf.{turn-make, turn-write, turn_end}

-- What a change in its turn asks, as tests that were made.
module _ (es : List Entity) (k : Key) (v : Value) where
  made_not : is_change (change make k v) ≡ true → holds k es ≡ true → turn es (change make k v) ≡ false
  unfolding ◌and◌
  made_not f h = turn-make es k v ∙ rw (f, h)

  made_orphan : is_change (change make k v) ≡ true → holds k es ≡ false → rooted es k ≡ false → turn es (change make k v) ≡ false
  unfolding ◌and◌
  made_orphan f h r = turn-make es k v ∙ rw (f, h, r)

  made_full : is_change (change make k v) ≡ true → holds k es ≡ false → live_most ≤ length es → turn es (change make k v) ≡ false
  unfolding ◌and◌
  made_full f h l = turn-make es k v ∙ rw (f, h, le-ltb (length es) live_most l) (and_false (rooted es k))

  made : is_change (change make k v) ≡ true → holds k es ≡ false → rooted es k ≡ true → length es < live_most → turn es (change make k v) ≡ true
  unfolding ◌and◌
  made f h r l = turn-make es k v ∙ rw (f, h, r, lt-ltb (length es) live_most l)

  module _ (few : length es ≤ live_most) where
    written : (t : Bool) → is_change (change write k v) ≡ true → holds k es ≡ t → turn es (change write k v) ≡ t
    unfolding ◌and◌
    written t f h = turn-write es k v few ∙ rw (f, h)

    ended : (t : Bool) → is_change (change end k v) ≡ true → holds k es ≡ t → turn es (change end k v) ≡ t
    unfolding ◌and◌
    ended t f h = turn_end es k v few ∙ rw (f, h)

module _ (ns bs : List ℕ) (c : ℕ) (index : List ℕ) (n : ℕ) (x : Indexed ns bs c index n) where
  table-few : length (table_at ns bs index n) ≤ live_most
  table-few = let a = table-length ns bs c index n x in let b = x.rows.few in omega arith

  -- A change that is not allowed, and the index after one that is.
  broken : turn (table_at ns bs index n) (change_at ns bs c) ≡ false → turn (table (first_changes ns bs c)) (change_at ns bs c) ≡ false
  broken t = rw (← x.says) t

  said : (i : ℕ) → i ≡ suc c → table (first_changes ns bs i) ≡ changed (change_at ns bs c) (table_at ns bs index n)
  unfolding first_changes
  said i q = rw q (table-changed (first_changes ns bs c) (change_at ns bs c) ∙ rw (← x.says))

  lawful-on : (i : ℕ) → i ≡ suc c → turn (table_at ns bs index n) (change_at ns bs c) ≡ true → in_turn [] (first_changes ns bs i) ≡ true
  unfolding first_changes
  lawful-on i q t =
      rw q (in_turn_snoc [] (first_changes ns bs c) (change_at ns bs c) ∙ and_i (in_turn [] (first_changes ns bs c)) _ x.lawful (rw (← x.says) t))

  next : (out : List ℕ) (m : ℕ) → turn (table_at ns bs index n) (change_at ns bs c) ≡ true
      → table_at ns bs out m ≡ changed (change_at ns bs c) (table_at ns bs index n) → all (λ r. ltb r (c + 1)) (take m out) ≡ true → m ≤ live_most
      → length out ≡ live_most → Indexed ns bs (c + 1) out m
  next out m t e b h l = record {
    rows = record { few = h; long = l; below = b };
    says = e ∙ sym (said (c + 1) (add-one c));
    lawful = lawful-on (c + 1) (add-one c) t;
  }

  rows_on : all (λ r. ltb r (c + 1)) (take n index) ≡ true
  rows_on = all_implied (λ r. ltb r c) (λ r. ltb r (c + 1)) (λ r h. lt-ltb r (c + 1) (let l = ltb-true r c h in omega arith)) (take n index) x.rows.below

  row_new : ltb c (c + 1) ≡ true
  row_new = lt-ltb c (c + 1) (omega arith)

  module _ (f : is_change (change_at ns bs c) ≡ true) (p : ℕ) where
    -- The key is live.
    module _ (s : Stands (key_at ns bs c) (table_at ns bs index n) p) where
      pub live_made : make ≡ kind_of (kind_at ns c) → turn (table (first_changes ns bs c)) (change_at ns bs c) ≡ false
      live_made q = let k = sym q in broken (rw k (made_not (table_at ns bs index n) (key_at ns bs c) (value_at ns bs c) (rw k at f) s.held))

      pub live_written : write ≡ kind_of (kind_at ns c) → p < n → Indexed ns bs (c + 1) (set index p c) n
      unfolding entities_at changed applied
      live_written q i =
          let k = sym q in
          let w : take n (set index p c) ≡ set (take n index) p c = take-set-lt n index p c i in
          next (set index p c) n
          (rw k (written (table_at ns bs index n) (key_at ns bs c) (value_at ns bs c) table-few true (rw k at f) s.held))
          (rw (k, w, map-set (entity_at ns bs) (take n index) p c) (sym (revalue-at (entity_at ns bs c) (table_at ns bs index n) p (index_proper ns bs c index n x).ascending s)))
          (rw w (all_set (λ r. ltb r (c + 1)) (take n index) p c row_new rows_on))
          x.rows.few
          (length-set index p c ∙ x.rows.long)

      pub live_ended : end ≡ kind_of (kind_at ns c) → (out : List ℕ) (q : ℕ) → take (n - (q - p)) out ≡ removed (take n index) p q → length out ≡ length index
          → (at k : ℕ) → q ≡ p + 1 + covered_run (names_in k (drop at bs)) (drop (p + 1) (table_at ns bs index n)) → drop at bs ≡ drop (packed_at + key_start ns c) bs
          → k ≡ names_used (depth_at ns c) → Indexed ns bs (c + 1) out (n - (q - p))
      unfolding entities_at changed applied
      live_ended e out q t l at k r g h =
          let kind = sym e in
          let few = x.rows.few in
          let ran = row-run ns bs c at k g h q (p + 1) (drop (p + 1) (table_at ns bs index n)) r in
          next out (n - (q - p))
          (rw kind (ended (table_at ns bs index n) (key_at ns bs c) (value_at ns bs c) table-few true (rw kind at f) s.held))
          (rw (kind, t, map-removed (entity_at ns bs) (take n index) p q) (sym (without_at (key_at ns bs c) (table_at ns bs index n) p q (index_proper ns bs c index n x).ascending s ran)))
          (rw t (all-removed (λ r. ltb r (c + 1)) (take n index) p q rows_on))
          (omega arith)
          (l ∙ x.rows.long)

    -- It is not live.
    module _ (b : Belongs (key_at ns bs c) (table_at ns bs index n) p) where
      pub dead_changed : (d : Said) → kind_said d ≡ kind_of (kind_at ns c) → (d ≡ Write) ⊎ (d ≡ End) → turn (table (first_changes ns bs c)) (change_at ns bs c) ≡ false
      dead_changed d e (inl q) =
          let k = sym e ∙ ap kind_said q in
          broken (rw k (written (table_at ns bs index n) (key_at ns bs c) (value_at ns bs c) table-few false (rw k at f) b.missing))
      dead_changed d e (inr q) =
          let k = sym e ∙ ap kind_said q in
          broken (rw k (ended (table_at ns bs index n) (key_at ns bs c) (value_at ns bs c) table-few false (rw k at f) b.missing))

      module _ (q : make ≡ kind_of (kind_at ns c)) where
        pub dead_full : live_most ≤ n → turn (table (first_changes ns bs c)) (change_at ns bs c) ≡ false
        dead_full h =
            let k = sym q in
            let l = table-length ns bs c index n x in
            broken (rw k (made_full (table_at ns bs index n) (key_at ns bs c) (value_at ns bs c) (rw k at f) b.missing (omega arith)))

        module _ (t : Bool) (g : t ≡ rooted (table_at ns bs index n) (key_at ns bs c)) where
          pub dead_orphan : t ≡ false → turn (table (first_changes ns bs c)) (change_at ns bs c) ≡ false
          dead_orphan h =
              let k = sym q in
              broken (rw k (made_orphan (table_at ns bs index n) (key_at ns bs c) (value_at ns bs c) (rw k at f) b.missing (sym g ∙ h)))

          pub dead_made : t ≡ true → n < live_most → (out : List ℕ) → take (n + 1) out ≡ inserted (take n index) p c → length out ≡ length index
              → Indexed ns bs (c + 1) out (n + 1)
          unfolding entities_at changed applied
          dead_made h few out u l =
              let k = sym q in
              let z = table-length ns bs c index n x in
              next out (n + 1)
              (rw k (made (table_at ns bs index n) (key_at ns bs c) (value_at ns bs c) (rw k at f) b.missing (sym g ∙ h) (omega arith)))
              (rw (k, u, map-inserted (entity_at ns bs) (take n index) p c) (sym (put-at (entity_at ns bs c) (table_at ns bs index n) p (index_proper ns bs c index n x).ascending b)))
              (rw u (all_inserted (λ r. ltb r (c + 1)) (take n index) p c row_new rows_on))
              (omega arith)
              (l ∙ x.rows.long)
