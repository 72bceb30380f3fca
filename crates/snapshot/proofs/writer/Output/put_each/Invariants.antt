use Prim.Native.Nat.{◌+◌, ◌*◌, ◌≤◌}
use lib.ListN.{drop}
use Rattle.names.specs.Text.{escape}
use Rattle.snapshot.proofs.Emits.{Remains}
use Rattle.snapshot.proofs.writer.Output.put_each.Given as goal

abbrev pub invariant-loop-c : goal.invariant-loop-c
invariant-loop-c l = (l.rest.at ≤ l.initial.rest.at + 6 * l.c-index) × Remains l.initial.rest l.rest (escape l.s) (escape (drop l.c-index l.s))
