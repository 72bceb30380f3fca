use Rattle.std.proofs.Common.{◌≡◌, length}
use Rattle.trial.proofs.fields.digits.Given as goal

abbrev pub invariant-loop-high : goal.invariant-loop-high
invariant-loop-high l = length l.room ≡ length l.initial.room

abbrev pub decreases-loop-high : goal.decreases-loop-high
decreases-loop-high l = length l.rest
