use Rattle.names.proofs.KeyWrite.{Packing}
use Rattle.names.proofs.key.pack_names.Given as goal

abbrev pub invariant-loop-i : goal.invariant-loop-i
invariant-loop-i l = Packing l.names l.lens l.initial.out l.out l.i l.e
