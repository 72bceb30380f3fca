use Rattle.std.proofs.Common.{arith}
use Rattle.std.proofs.lemmas.Bool.Decides.{nat_tests}
use Rattle.names.specs.Pick.{◌and◌}
use Rattle.std.proofs.Common.{length-take}
use Rattle.store.proofs.layout.Image.names_fit.Goals as goal

pub slice_bounds-slot_holds-end : goal.slice_bounds-slot_holds-end
slice_bounds-slot_holds-end c = simp length-take (omega arith)

pub slot_holds-requires : goal.slot_holds-requires
slot_holds-requires c = simp length-take (omega arith)

pub returns-then-slot_holds : goal.returns-then-slot_holds
unfolding ◌and◌
returns-then-slot_holds c = grind (arith, nat_tests)

pub returns-else-slot_holds : goal.returns-else-slot_holds
unfolding ◌and◌
returns-else-slot_holds c = grind (arith, nat_tests)
