use Rattle.std.proofs.Common.{◌≡◌, ◌-◌}
use Rattle.names.specs.Pick.{◌and◌}
use Rattle.reader.specs.code.Bodies.{endless}
use Rattle.reader.proofs.body.no_end.Given as goal

abbrev pub invariant-loop-i : goal.invariant-loop-i
invariant-loop-i l = endless l.s 0 64 ≡ (l.endless and endless l.s l.i (64 - l.i))
