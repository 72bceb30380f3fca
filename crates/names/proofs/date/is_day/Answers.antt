use Rattle.std.proofs.Common.{arith}
use Rattle.std.proofs.lemmas.Bool.Decides.{nat_tests}
use Rattle.names.specs.Date.{is_day}
use Rattle.names.specs.Pick.{◌and◌}
use Rattle.names.proofs.date.is_day.Goals as goal
use Rattle.names.proofs.date.is_day.Goals.{then-m-le12, else-m-le12}

pub returns-then-d-ge1 : goal.returns-then-d-ge1
unfolding is_day ◌and◌
returns-then-d-ge1 c = grind (arith, nat_tests)

pub returns-else-d-ge1 : goal.returns-else-d-ge1
unfolding is_day ◌and◌
returns-else-d-ge1 c = elim c.if-m-le12.branch [ then-m-le12 w ↦ grind (arith, nat_tests) | else-m-le12 w ↦ grind (arith, nat_tests) ]
