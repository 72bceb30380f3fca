use Rattle.reader.specs.code.Bodies.{Cutting}
use Rattle.reader.proofs.body.section_end.Given as goal

abbrev pub invariant-loop-i : goal.invariant-loop-i
invariant-loop-i l = Cutting l.s l.at l.i
