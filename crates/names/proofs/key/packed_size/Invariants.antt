use Rattle.names.proofs.KeyCompared.{Left}
use Rattle.names.proofs.key.packed_size.Given as goal

abbrev pub invariant-loop-k : goal.invariant-loop-k
invariant-loop-k l = Left l.s l.p l._k l.rest
