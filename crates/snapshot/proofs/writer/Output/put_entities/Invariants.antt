use Prim.Native.Nat.{◌+◌, ◌*◌, ◌≤◌}
use lib.ListN.{take, drop}
use Rattle.store.specs.code.Index.{table_at}
use Rattle.store.specs.code.Rows.{entities_at}
use Rattle.snapshot.specs.code.Writing.{entities_text}
use Rattle.snapshot.proofs.Emits.{Remains}
use Rattle.snapshot.proofs.writer.Output.put_entities.Given as goal

abbrev pub invariant-loop-r : goal.invariant-loop-r
invariant-loop-r l = (l.opened ≤ 4) × (l.self.at ≤ l.initial.self.at + 550000 * l.r-index) × Remains l.initial.self l.self (entities_text 0 (table_at l.numbers l.bytes l.index l.n)) (entities_text l.opened (entities_at l.numbers l.bytes (drop l.r-index (take l.n l.index))))
