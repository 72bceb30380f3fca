use native.Mathlib.Omega.{arith}
use native.Mathlib.Nat.{sub-zero}
use Rattle.store.proofs.Layouts.KeyWalk.{key_unfit, key_starts, level_stands, oid_unfit, repeat_unfit, levels_end, levels_last}
use Rattle.store.proofs.Layouts.EntryKeys.{used_some}
use Rattle.store.proofs.layout.behind_key.Goals as goal

pub overflow_sub-level-end : goal.overflow_sub-level-end
overflow_sub-level-end c = search used_some

pub returns-in_err-rest : goal.returns-in_err-rest
returns-in_err-rest c = rw c.from_residual.ensures (search (key_unfit, c.in_err-rest.ensures))

pub loop-level-init : goal.loop-level-init
loop-level-init c = rw sub-zero (key_starts _ c.requires.used _ _ c.in_ok-rest.ensures)

pub loop-level-preserved : goal.loop-level-preserved
loop-level-preserved c = level_stands _ _ _ c.loop-level.invariant (omega arith) _ c.in_ok-oid.ensures _ c.in_ok-rest-2.ensures _ (omega arith)

pub returns-in_err-oid : goal.returns-in_err-oid
returns-in_err-oid c = rw c.from_residual-in_err-oid.ensures (oid_unfit _ _ _ c.loop-level.invariant (omega arith) c.in_err-oid.ensures)

pub returns-in_err-rest-2 : goal.returns-in_err-rest-2
returns-in_err-rest-2 c = rw c.from_residual-in_err-rest-2.ensures (repeat_unfit _ _ _ c.loop-level.invariant (omega arith) _ c.in_ok-oid.ensures c.in_err-rest-2.ensures)

pub returns-then-names-eq1 : goal.returns-then-names-eq1
returns-then-names-eq1 c = levels_end _ _ _ c.loop-level.invariant (omega arith)

pub returns-else-names-eq1 : goal.returns-else-names-eq1
returns-else-names-eq1 c = let e = levels_last _ _ _ c.loop-level.invariant (omega (arith, used_some _ c.requires.used)) in rw e c.behind_name-else-names-eq1.ensures
