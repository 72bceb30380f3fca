use Rattle.store.specs.code.Index.{Indexed}
use Rattle.store.proofs.replay.replay.Given as goal

abbrev pub invariant-loop-i : goal.invariant-loop-i
invariant-loop-i l = Indexed l.numbers l.bytes l.i l.index l.state.entries
