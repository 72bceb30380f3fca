use Prim.Native.Nat.{◌-◌}
use Rattle.names.specs.code.KeyParts.{AlikeFor}
use Rattle.names.proofs.bytes.alike_on.Given as goal

abbrev pub invariant-loop-t : goal.invariant-loop-t
invariant-loop-t l = AlikeFor l.a l.p l.b l.q l.t

abbrev pub decreases-loop-t : goal.decreases-loop-t
decreases-loop-t l = l.to - l.t
