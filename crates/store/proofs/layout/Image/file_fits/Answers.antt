use Rattle.std.proofs.Common.{arith}
use Rattle.std.proofs.lemmas.Bool.Decides.{nat_tests}
use Rattle.names.specs.Pick.{◌and◌}
use Rattle.store.specs.code.Layout.{file_fits}
use Rattle.store.proofs.layout.Image.file_fits.Goals as goal

pub returns-then-throughs_fit : goal.returns-then-throughs_fit
unfolding ◌and◌ file_fits
returns-then-throughs_fit c = grind (arith, nat_tests)

pub returns-else-throughs_fit : goal.returns-else-throughs_fit
unfolding ◌and◌ file_fits
returns-else-throughs_fit c = grind (arith, nat_tests)
