use Prim.Native.Nat.{◌-◌}
use lib.ListN.{length}
use Rattle.reader.specs.code.Found.{ListedTo}
use Rattle.reader.proofs.attributes.Row.list_on.Given as goal

abbrev pub invariant-loop-v : goal.invariant-loop-v
invariant-loop-v l = ListedTo l.self.s.now l.at l.self.element l.i l.n l.starts l.ends l.extra

abbrev pub decreases-loop-v : goal.decreases-loop-v
decreases-loop-v l = length l.self.s.now - l.i
