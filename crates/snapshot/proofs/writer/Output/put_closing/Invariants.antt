use Prim.Native.Nat.{◌+◌, ◌*◌, ◌≤◌}
use Rattle.snapshot.specs.code.Writing.{closing_text}
use Rattle.snapshot.proofs.Emits.{Remains}
use Rattle.snapshot.proofs.writer.Output.put_closing.Given as goal

abbrev pub invariant-loop-k : goal.invariant-loop-k
invariant-loop-k l = (l.self.at + 20 * l.k ≤ l.initial.self.at + 20 * l.opened) × Remains l.initial.self l.self (closing_text l.opened l.depth) (closing_text l.k l.depth)
