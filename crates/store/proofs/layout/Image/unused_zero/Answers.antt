use Rattle.std.proofs.Common.{arith}
use Rattle.std.proofs.lemmas.Bool.Decides.{nat_tests}
use Rattle.names.specs.Pick.{◌and◌}
use Rattle.store.specs.code.Layout.{unused_zero}
use Rattle.store.proofs.layout.Image.unused_zero.Goals as goal

pub returns-then-numbers_unused : goal.returns-then-numbers_unused
unfolding ◌and◌ unused_zero
returns-then-numbers_unused c = grind (arith, nat_tests)

pub returns-else-numbers_unused : goal.returns-else-numbers_unused
unfolding ◌and◌ unused_zero
returns-else-numbers_unused c = grind (arith, nat_tests)
