use Rattle.std.proofs.Common.{◌≡◌, ◌-◌, drop}
use Rattle.names.specs.Key.{covers, names_in}
use Rattle.names.proofs.key.packed_covers.Given as goal

abbrev pub invariant-loop-k : goal.invariant-loop-k
invariant-loop-k l = covers (names_in l.m (drop l.p l.a)) (names_in l.n (drop l.q l.b)) ≡ covers (names_in (l.m - l._k) l.x) (names_in (l.n - l._k) l.y)
