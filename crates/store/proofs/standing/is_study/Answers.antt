use Rattle.std.proofs.Common.{arith}
use Rattle.std.proofs.lemmas.Bool.Decides.{nat_tests}
use Rattle.names.specs.Pick.{◌and◌}
use Rattle.store.specs.Image.{machine_in}
use Rattle.store.proofs.Calls.StandingLaws.{study-inside, version-inside}
use Rattle.store.proofs.standing.is_study.Goals as goal

pub text_stands-requires : goal.text_stands-requires
text_stands-requires c = search study-inside

pub text_stands-requires-then-text_stands : goal.text_stands-requires-then-text_stands
text_stands-requires-then-text_stands c = search version-inside

pub returns-then-text_stands : goal.returns-then-text_stands
unfolding machine_in ◌and◌
returns-then-text_stands c = grind (arith, nat_tests)

pub returns-else-text_stands : goal.returns-else-text_stands
unfolding machine_in ◌and◌
returns-else-text_stands c = grind (arith, nat_tests)
