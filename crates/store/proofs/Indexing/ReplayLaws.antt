-- The replay of the changes of an image, one turn after another.
use mathlib.Core.Path.{◌≡◌, refl, sym, ◌∙◌}
use mathlib.Core.Bool.{Bool, true, false}
use mathlib.Core.List.{List, []}
use Prim.Native.Nat.{ℕ, zero, suc, ◌+◌, ◌≤◌, ◌<◌}
use native.Mathlib.Decide.{ℕ_discrete}
use native.Mathlib.Nat.{not-suc-le-zero}
use native.Mathlib.Omega.{arith}
use lib.ListN.{length, drop}
use Rattle.names.specs.Bytes.{all}
use Rattle.names.specs.Key.{names_used, packed}
use Rattle.names.specs.code.KeyWhole.{WholeKey}
use Rattle.names.specs.Pick.{◌and◌}
use Rattle.names.proofs.KeyCompared.{whole-key}
use Rattle.names.proofs.KeyWalk.{names-length}
use Rattle.store.specs.Change.{is_change}
use Rattle.store.specs.Image.{bytes_size}
use Rattle.store.specs.code.Index.{Indexed}
use Rattle.store.specs.code.Layout.{row_fits, rows_fit}
use Rattle.store.specs.Machine.{live_most, in_turn}
use Rattle.store.specs.code.Rows.{packed_at, depth_at, key_start, key_at, entities_at, change_at, first_changes}
use Rattle.store.specs.Table.{table, table_from}
use Rattle.store.specs.code.Turn.{turn}
use Rattle.store.proofs.Tables.InTurn.{in_turn_snoc}
use Rattle.store.proofs.Lists.FirstPlaces.{each_at}
use Rattle.store.proofs.Layouts.ChangesPlaced.{change-key}
use Rattle.store.proofs.Layouts.RowFits.{row_fits_lem, key-stands}

-- Before the first change nothing is live.
pub indexed_none : (ns bs index : List ℕ) → length index ≡ live_most → Indexed ns bs 0 index 0
unfolding all entities_at first_changes table table_from in_turn
indexed_none ns bs index e = record { rows = record { few = omega arith; long = e; below = refl }; says = refl; lawful = refl }

-- A row of a layout that holds fits, is a change, and its key stands whole.
pub row_at : (ns bs : List ℕ) (c i : ℕ) → rows_fit ns bs c ≡ true → i < c → row_fits ns bs i ≡ true
unfolding rows_fit
row_at ns bs c i e h = each_at (rows_fit ns bs) (row_fits ns bs) (λ n. refl) c i e h

pub row-is_change : (ns bs : List ℕ) (i : ℕ) → row_fits ns bs i ≡ true → is_change (change_at ns bs i) ≡ true
row-is_change ns bs i e = (row_fits_lem ns bs i e).formed

key-count : (ns bs : List ℕ) (i : ℕ) → length (key_at ns bs i) ≡ names_used (depth_at ns i)
unfolding key_at
key-count ns bs i = names-length (names_used (depth_at ns i)) (drop (packed_at + key_start ns i) bs)

pub row-whole : (ns bs : List ℕ) (i at n size : ℕ) → length bs ≡ bytes_size → row_fits ns bs i ≡ true → drop at bs ≡ drop (packed_at + key_start ns i) bs → at ≤ length bs
    → n ≡ names_used (depth_at ns i) → size ≡ length (packed (key_at ns bs i)) → WholeKey bs at n size
row-whole ns bs i at n size l e p h u w =
    let f = row_fits_lem ns bs i e in
    let q : n ≡ length (key_at ns bs i) = u ∙ sym (key-count ns bs i) in
    rw (q, w) (whole-key bs at (key_at ns bs i) _ (change-key (change_at ns bs i) f.formed) h (p ∙ key-stands ns bs l i f))

-- A change that is not allowed in its turn breaks the whole list.
pub replay_broken : (ns bs : List ℕ) (c i : ℕ) → turn (table (first_changes ns bs i)) (change_at ns bs i) ≡ false → i < c → in_turn [] (first_changes ns bs c) ≡ false
unfolding first_changes ◌and◌
replay_broken ns bs zero i t h = absurd (not-suc-le-zero h)
replay_broken ns bs (suc n) i t h =
    in_turn_snoc [] (first_changes ns bs n) (change_at ns bs n) ∙ elim (ℕ_discrete i n) [ yes q ↦ last q | no q ↦ rw (replay_broken ns bs n i t (omega arith)) ]
  where
    last : i ≡ n → (in_turn [] (first_changes ns bs n) and turn (table (first_changes ns bs n)) (change_at ns bs n)) ≡ false
    last q = go (in_turn [] (first_changes ns bs n))
      where
        go : (b : Bool) → (b and turn (table (first_changes ns bs n)) (change_at ns bs n)) ≡ false
        go true = rw q at t
        go false = refl
