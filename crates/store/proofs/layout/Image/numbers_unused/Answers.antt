use Rattle.std.proofs.Common.{arith}
use Rattle.std.proofs.lemmas.Bool.Decides.{nat_tests}
use Rattle.names.specs.Pick.{◌and◌}
use Rattle.std.proofs.lemmas.List.{take_rest}
use Rattle.store.proofs.Lists.Zeros.{zeros_same}
use Rattle.store.proofs.layout.Image.numbers_unused.Goals as goal

pub returns-then-all_zero : goal.returns-then-all_zero
unfolding ◌and◌
returns-then-all_zero c =
    let a = zeros_same _ _ c.all_zero.ensures in
    let b = zeros_same _ _ c.all_zero-then-all_zero.ensures in
    grind (arith, nat_tests, take_rest)

pub returns-else-all_zero : goal.returns-else-all_zero
unfolding ◌and◌
returns-else-all_zero c = let a = zeros_same _ _ c.all_zero.ensures in grind (arith, nat_tests, take_rest)
