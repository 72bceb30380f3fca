use Rattle.std.proofs.Common.{arith}
use Rattle.std.proofs.lemmas.Bool.Decides.{nat_tests}
use Rattle.names.specs.Pick.{pick}
use Rattle.store.specs.code.Groups.{oid_size}
use Rattle.store.proofs.layout.oid_size.Goals as goal

pub returns : goal.returns
unfolding oid_size pick
returns c = grind (arith, nat_tests)
