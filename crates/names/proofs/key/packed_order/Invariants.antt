use Rattle.std.proofs.Common.{◌≡◌, ◌-◌}
use Rattle.names.specs.Key.{key_order, names_in}
use Rattle.names.proofs.key.packed_order.Given as goal

abbrev pub invariant-loop-k : goal.invariant-loop-k
invariant-loop-k l = key_order (names_in l.m l.fn.x) (names_in l.n l.fn.y) ≡ key_order (names_in (l.m - l._k) l.x) (names_in (l.n - l._k) l.y)
