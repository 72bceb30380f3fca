use Rattle.std.proofs.Common.{arith}
use Rattle.std.proofs.lemmas.Bool.Decides.{nat_tests}
use Rattle.names.specs.Pick.{◌and◌}
use Rattle.store.specs.code.Layout.{contents_fit}
use Rattle.store.proofs.layout.Image.contents_fit.Goals as goal

pub returns-then-through_files-changes : goal.returns-then-through_files-changes
unfolding ◌and◌ contents_fit
returns-then-through_files-changes c = grind (arith, nat_tests)

pub returns-else-through_files-changes : goal.returns-else-through_files-changes
unfolding ◌and◌ contents_fit
returns-else-through_files-changes c = grind (arith, nat_tests)
