use native.Mathlib.Omega.{arith}
use Rattle.store.proofs.Layouts.EntryLaws.{entry-cases, behind_shorter, entry_fit, entry_misfit}
use Rattle.store.proofs.layout.entry_key_size.Goals.{else-is_value-via-then-is_value+else-value_allowed, else-is_value-via-else-is_value}
use Rattle.store.proofs.layout.entry_key_size.Goals as goal

pub returns-in_err-value : goal.returns-in_err-value
returns-in_err-value c = rw c.from_residual.ensures (search (entry-cases, c.in_err-value.ensures))

pub overflow_sub-result : goal.overflow_sub-result
overflow_sub-result c = search (behind_shorter, c.in_ok-value.ensures)

pub returns-then-value_allowed : goal.returns-then-value_allowed
returns-then-value_allowed c =
    entry_fit _ _ _ _ c.depth_names.ensures (omega arith) (omega arith) _ c.in_ok-value.ensures _ c.is_value.ensures c.if-is_value.true _
    (rw c.is_empty.ensures at c.value_allowed.ensures) c.if-value_allowed.true

pub returns-else-is_value : goal.returns-else-is_value
returns-else-is_value c =
    elim c.else-is_value.branch [
      | else-is_value-via-then-is_value+else-value_allowed w ↦
          entry_misfit _ _ _ _ c.depth_names.ensures (omega arith) (omega arith) _ c.in_ok-value.ensures _ c.is_value.ensures w.if-is_value.true _
          (rw w.is_empty.ensures at w.value_allowed.ensures) w.if-value_allowed.false
      | else-is_value-via-else-is_value w ↦ search (entry-cases, c.in_ok-value.ensures)
    ]
