use Rattle.std.proofs.Common.{arith}
use Rattle.std.proofs.lemmas.Bool.Decides.{nat_tests}
use Rattle.names.specs.Pick.{pick}
use Rattle.store.specs.Change.{value_fits}
use Rattle.store.specs.Image.{kind_of}
use Rattle.store.proofs.layout.value_allowed.Goals as goal

pub returns-then-item : goal.returns-then-item
unfolding kind_of value_fits pick
returns-then-item c = grind (arith, nat_tests)

pub returns-else-item : goal.returns-else-item
unfolding kind_of value_fits pick
returns-else-item c = grind (arith, nat_tests)

pub returns-in-2 : goal.returns-in-2
unfolding kind_of value_fits pick
returns-in-2 c = grind (arith, nat_tests)

pub returns-in_default : goal.returns-in_default
unfolding kind_of value_fits pick
returns-in_default c = grind (arith, nat_tests)
