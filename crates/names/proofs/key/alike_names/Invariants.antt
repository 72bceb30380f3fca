use Rattle.std.proofs.Common.{◌≤◌}
use Rattle.names.specs.code.KeyParts.{AlikeFor}
use Rattle.names.proofs.KeyAlike.{Passing}
use Rattle.names.proofs.key.alike_names.Given as goal

abbrev pub invariant-loop-count : goal.invariant-loop-count
invariant-loop-count l = (l.size ≤ l.t) × AlikeFor l.a l.p l.b l.q l.t × Passing l.a l.p l.b l.q l.size l.count
