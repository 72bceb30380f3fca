use Rattle.std.proofs.Common.{◌≡◌, take}
use Rattle.names.proofs.key.byte_difference.Given as goal

abbrev pub invariant-loop-t : goal.invariant-loop-t
invariant-loop-t l = take l.t l.x ≡ take l.t l.y
