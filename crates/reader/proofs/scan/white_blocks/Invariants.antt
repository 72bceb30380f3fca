use Rattle.std.proofs.Common.{◌-◌, length}
use Rattle.names.specs.Class.{is_white}
use Rattle.names.specs.code.ByteClasses.{Classes}
use Rattle.reader.specs.code.ByteRun.{Runs}
use Rattle.reader.proofs.scan.white_blocks.Given as goal

abbrev pub invariant-loop-i : goal.invariant-loop-i
invariant-loop-i l = Classes l.classes × Runs is_white l.s l.at l.i

abbrev pub decreases-loop-i : goal.decreases-loop-i
decreases-loop-i l = length l.s - l.i
