use Rattle.names.proofs.OverwriteLaws.{Writing}
use Rattle.names.proofs.bytes.put_bytes.Given as goal

abbrev pub invariant-loop-i : goal.invariant-loop-i
invariant-loop-i l = Writing l.initial.out l.n l.s l.out l.i
