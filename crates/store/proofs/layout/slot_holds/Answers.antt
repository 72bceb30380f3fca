use Rattle.std.proofs.Common.{arith}
use Rattle.std.proofs.lemmas.Bool.Decides.{nat_tests}
use Rattle.names.specs.Pick.{◌and◌}
use Rattle.std.proofs.lemmas.List.{take_rest}
use Rattle.store.proofs.Lists.Zeros.{zeros_same}
use Rattle.store.specs.code.Layout.{slot_holds}
use Rattle.store.proofs.layout.slot_holds.Goals as goal

pub returns-then-is_long_name : goal.returns-then-is_long_name
unfolding slot_holds ◌and◌
returns-then-is_long_name c = let a = zeros_same _ _ c.all_zero.ensures in grind (arith, nat_tests, take_rest)

pub returns-else-is_long_name : goal.returns-else-is_long_name
unfolding slot_holds ◌and◌
returns-else-is_long_name c = grind (arith, nat_tests, take_rest)
