use native.Mathlib.Omega.{arith}
use Rattle.snapshot.proofs.WalkLaws.{live-rows, walking-entities}
use borrow.Author.Rules.{rules}
use Rattle.snapshot.proofs.writer.Output.put_entities.Goals as goal

pub invariant_of-row : goal.invariant_of-row
invariant_of-row c = record { numbers_len = search rules; bytes_len = search rules; few = search live-rows; fits = search live-rows }

pub loop-r-preserved : goal.loop-r-preserved
loop-r-preserved c = (search rules, omega arith, search walking-entities)

pub returns : goal.returns
returns c = (search walking-entities, search rules)
