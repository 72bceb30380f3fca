use Rattle.std.proofs.Common.{arith}
use Rattle.std.proofs.lemmas.Bool.Decides.{nat_tests}
use Rattle.names.specs.Pick.{◌and◌}
use Rattle.store.proofs.layout.Image.throughs_fit.Goals as goal

pub returns-then-through-self : goal.returns-then-through-self
unfolding ◌and◌
returns-then-through-self c = grind (arith, nat_tests)

pub returns-else-through-self : goal.returns-else-through-self
unfolding ◌and◌
returns-else-through-self c = grind (arith, nat_tests)
