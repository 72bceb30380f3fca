-- The sizes of the keys of the rows: how the loop down over the rows keeps them.
use mathlib.Core.Path.{◌≡◌, refl, sym, ◌∙◌}
use mathlib.Core.Bool.{true, false, false≢true}
use mathlib.Core.List.{List}
use Prim.Native.Nat.{ℕ, ◌-◌, ◌≤◌, ◌<◌}
use native.Mathlib.Decide.{ℕ_discrete}
use native.Mathlib.Omega.{arith}
use lib.ListN.{length, get_or, set, length-set}
use lib.Seq.{get_or-set_same, get_or-set_other}
use Rattle.std.specs.Prelude.{Some}
use Rattle.names.specs.Key.{packed}
use Rattle.store.specs.code.Entry.{SizeIfFits, Sized, Measured}
use Rattle.store.specs.code.Layout.{row_fits, rows_fit}
use Rattle.store.specs.Machine.{changes_most}
use Rattle.store.specs.code.Rows.{key_at}
use Rattle.names.specs.Pick.{◌and◌}
use Rattle.names.proofs.Tests.{and_true, and_false}
use Rattle.store.proofs.Lists.FirstPlaces.{from_before}

-- No row yet, and one row more, before the others.
pub sized_none : (ns bs : List ℕ) (n : ℕ) (sizes : List ℕ) → length sizes ≡ changes_most → Sized ns bs n n sizes
sized_none ns bs n sizes e = record { room = e; each = λ i l h. absurd (omega arith) }

module _ (ns bs : List ℕ) (n i : ℕ) (sizes : List ℕ) (sized : Sized ns bs i n sizes) (h : 0 < i) (few : i ≤ n) (room : n ≤ changes_most)
    (r : ℕ) (f : SizeIfFits (row_fits ns bs (i - 1)) (key_at ns bs (i - 1)) (Some r)) where
  size-kept : (j : ℕ) → i - 1 ≤ j → j < n → get_or (set sizes (i - 1) r) j 0 ≡ length (packed (key_at ns bs j))
  size-kept j l k =
      elim (ℕ_discrete j (i - 1)) [
        | yes q ↦ let long = sized.room in rw q (get_or-set_same sizes (i - 1) r 0 (omega arith) ∙ f.1)
        | no q ↦ get_or-set_other sizes (i - 1) j r 0 q ∙ sized.each j (omega arith) k
      ]

  pub sized_on : Sized ns bs (i - 1) n (set sizes (i - 1) r)
  sized_on = record { room = rw length-set sized.room; each = size-kept }

-- The loop down over the rows: one does not fit, the others decide, all fit.
module _ (ns bs : List ℕ) (n i : ℕ) (inv : rows_fit ns bs n ≡ rows_fit ns bs i) where
  rows_step : 0 < i → rows_fit ns bs n ≡ (rows_fit ns bs (i - 1) and row_fits ns bs (i - 1))
  unfolding rows_fit
  rows_step h = inv ∙ from_before (λ n m. rows_fit ns bs n ≡ (rows_fit ns bs m and row_fits ns bs m)) (λ n. refl) i h

  pub rows_stop : 0 < i → row_fits ns bs (i - 1) ≡ false → (sizes : List ℕ) → Measured ns bs n sizes (rows_fit ns bs n) false
  rows_stop h e sizes = record { says = sym (rows_step h ∙ rw e (and_false (rows_fit ns bs (i - 1)))); sized = λ f. absurd (false≢true f) }

  pub rows_on : 0 < i → row_fits ns bs (i - 1) ≡ true → rows_fit ns bs n ≡ rows_fit ns bs (i - 1)
  rows_on h e = rows_step h ∙ rw e (and_true (rows_fit ns bs (i - 1)))

  pub rows_end : i ≤ 0 → (sizes : List ℕ) → Sized ns bs i n sizes → Measured ns bs n sizes (rows_fit ns bs n) true
  unfolding rows_fit
  rows_end h sizes s =
      let z : i ≡ 0 = omega arith in
      record { says = sym (inv ∙ rw z); sized = λ e. rw z at s }

pub ruleset rows-down = (sized_none, sized_on, rows_stop, rows_on, rows_end)
