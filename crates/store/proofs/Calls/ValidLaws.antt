-- An image judged by its layout and its changes in turn.
use mathlib.Core.Path.{◌≡◌, sym, ◌∙◌}
use mathlib.Core.Bool.{Bool, true, false}
use mathlib.Core.List.{List}
use mathlib.Core.Option.{none}
use Prim.Native.Nat.{ℕ, ◌≤◌}
use native.Mathlib.Omega.{arith}
use lib.ListN.{length}
use Rattle.std.specs.Prelude.{Option, Some, None, Err, ok_or}
use Rattle.store.specs.Answer.{refused}
use Rattle.store.specs.Calls.{opened}
use Rattle.store.specs.code.Entry.{Measured}
use Rattle.store.specs.Image.{numbers_size, bytes_size, read_image}
use Rattle.store.specs.code.Index.{Replayed}
use Rattle.store.specs.code.Judged.{judged_as, Judged, ValidBy}
use Rattle.store.specs.code.Layout.{laid_out, change_count, rows_fit}
use Rattle.store.specs.Machine.{changes_most}
use Rattle.store.specs.Outcomes.{buffers}
use Rattle.store.specs.code.Withdrawal.{Valid}
use Rattle.store.specs.declared.answer.Refusal.TheVariants.{NotValid}
use Rattle.store.specs.declared.replay.LiveIndex.{LiveIndex}
use Rattle.store.proofs.Layouts.BuffersLaid.{laid_out_lem}
use Rattle.store.proofs.Layouts.LayoutExact.{read-valid, read_not_in_turn, read_not_laid}
use Rattle.store.proofs.Calls.OpenLaws.{right_lengths_lem, opened_none, opened_some}

module _ (ns bs : List ℕ) (t : Bool) (e : t ≡ laid_out ns bs) (h : length ns ≡ numbers_size) (k : length bs ≡ bytes_size) where
  pub judged_not_laid : (index sizes : List ℕ) → t ≡ false → Judged ns bs index sizes (Err NotValid)
  judged_not_laid index sizes f = read_not_laid ns bs h k (sym e ∙ f)

  pub judged_replayed : (index sizes : List ℕ) (r : Option LiveIndex) → t ≡ true → Measured ns bs (change_count ns) sizes (laid_out ns bs) t → Replayed ns bs (change_count ns) index r
      → Judged ns bs index sizes (ok_or r NotValid)
  judged_replayed index sizes (Some s) f m w =
      record { valid = record { numbers = h; bytes = k; read = read-valid ns bs h k (sym e ∙ f) w.lawful }; indexed = w; sized = m.sized f }
  judged_replayed index sizes None f m w = read_not_in_turn ns bs h k (sym e ∙ f) w

  -- The same by this paper's numbers.
  pub judged_two : t ≡ false → refused 2 ≡ opened (buffers ns bs)
  judged_two f = sym (opened_none (buffers ns bs) (right_lengths_lem (buffers ns bs) h k) (read_not_laid ns bs h k (sym e ∙ f)))

  pub judged_as_lem : (index sizes : List ℕ) (r : Option LiveIndex) → t ≡ true → Measured ns bs (change_count ns) sizes (laid_out ns bs) t → Replayed ns bs (change_count ns) index r
      → judged_as (buffers ns bs) (ok_or r NotValid) ≡ opened (buffers ns bs)
  judged_as_lem index sizes (Some s) f m w = sym (opened_some (buffers ns bs) _ (right_lengths_lem (buffers ns bs) h k) (read-valid ns bs h k (sym e ∙ f) w.lawful))
  judged_as_lem index sizes None f m w = sym (opened_none (buffers ns bs) (right_lengths_lem (buffers ns bs) h k) (read_not_in_turn ns bs h k (sym e ∙ f) w))

pub ruleset judged = (judged_not_laid, judged_replayed, judged_two, judged_as_lem)

-- What a valid layout says of the rows that are replayed.
module _ (ns bs : List ℕ) (t : Bool) (e : t ≡ laid_out ns bs) (f : t ≡ true) where
  pub laid_few : change_count ns ≤ changes_most
  laid_few = (laid_out_lem ns bs (sym e ∙ f)).few-changes

  pub laid_rows_fit : rows_fit ns bs (change_count ns) ≡ true
  laid_rows_fit = (laid_out_lem ns bs (sym e ∙ f)).rows

pub ruleset laid-replays = (laid_few, laid_rows_fit)

-- The answer taken as a test.
pub told-valid : (ns bs : List ℕ) (t : Bool) → ValidBy ns bs t → t ≡ true → Valid ns bs
told-valid ns bs true v e = v
told-valid ns bs false v e = let z : ◌≡◌ {A = ℕ} 0 1 = cc in absurd (omega arith)

pub told_invalid : (ns bs : List ℕ) (t : Bool) → ValidBy ns bs t → t ≡ false → read_image (buffers ns bs) ≡ none
told_invalid ns bs true v e = let z : ◌≡◌ {A = ℕ} 0 1 = cc in absurd (omega arith)
told_invalid ns bs false v e = v
