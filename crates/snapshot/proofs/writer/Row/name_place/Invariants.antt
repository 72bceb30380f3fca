use Rattle.snapshot.specs.code.Writing.{NamesAt}
use Rattle.snapshot.proofs.writer.Row.name_place.Given as goal

abbrev pub invariant-loop-i : goal.invariant-loop-i
invariant-loop-i l = NamesAt l.self.numbers.now l.self.bytes.now l.self.r l.i l.p
