use Prim.Native.Nat.{ℕ}
use native.Mathlib.Omega.{arith}
use lib.ListN.{length-take}
use Rattle.store.proofs.Indexing.ReplayLaws.{indexed_none, row_at, replay_broken}
use Rattle.store.proofs.replay.replay.Goals as goal

pub loop-i-init : goal.loop-i-init
loop-i-init c = search indexed_none

pub step_row-requires-clause-c_value : goal.step_row-requires-clause-c_value
step_row-requires-clause-c_value c = row_at _ _ _ _ c.requires.c_value (omega (arith, length-take {A = ℕ}))

pub returns-in_err-next : goal.returns-in_err-next
returns-in_err-next c = rw c.from_residual.ensures (replay_broken _ _ _ _ c.in_err-next.ensures (omega (arith, length-take {A = ℕ})))
