use Rattle.std.proofs.Common.{arith}
use Rattle.std.proofs.lemmas.Bool.Decides.{nat_tests}
use Rattle.names.specs.Pick.{◌and◌}
use Rattle.store.proofs.Layouts.FileReads.{date-part}
use Rattle.store.proofs.layout.Image.date_fits.Goals as goal

pub returns-then-i-eq0 : goal.returns-then-i-eq0
unfolding ◌and◌
returns-then-i-eq0 c = grind (arith, nat_tests, date-part)

pub returns-else-i-eq0 : goal.returns-else-i-eq0
unfolding ◌and◌
returns-else-i-eq0 c = grind (arith, nat_tests, date-part)

pub returns-else-is_date : goal.returns-else-is_date
unfolding ◌and◌
returns-else-is_date c = grind (arith, nat_tests, date-part)
