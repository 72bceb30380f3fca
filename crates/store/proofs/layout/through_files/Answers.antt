use Rattle.std.proofs.Common.{arith}
use Rattle.std.proofs.lemmas.Bool.Decides.{nat_tests}
use Rattle.names.specs.Pick.{pick}
use Rattle.store.specs.code.Layout.{through_files}
use Rattle.store.proofs.layout.through_files.Goals as goal

pub returns-then-f-eq0 : goal.returns-then-f-eq0
unfolding through_files pick
returns-then-f-eq0 c = grind (arith, nat_tests)

pub returns-else-f-eq0 : goal.returns-else-f-eq0
unfolding through_files pick
returns-else-f-eq0 c = grind (arith, nat_tests)
