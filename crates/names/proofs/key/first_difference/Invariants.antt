use Rattle.std.proofs.Common.{◌≡◌, ◌≤◌, ◌-◌, take, length}
use Rattle.names.proofs.key.first_difference.Given as goal

abbrev pub invariant-loop-t : goal.invariant-loop-t
invariant-loop-t l = (l.t ≤ length l.y) × (take l.t l.x ≡ take l.t l.y)

abbrev pub decreases-loop-t : goal.decreases-loop-t
decreases-loop-t l = length l.y - l.t
