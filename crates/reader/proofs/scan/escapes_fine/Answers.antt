use Rattle.names.proofs.Decode.{piece_entity}
use Rattle.reader.specs.code.ByteRun.{is_unescaped}
use Rattle.reader.proofs.TagBytes.{fine-loop}
use Rattle.reader.proofs.ByteRuns.{runs_decoded}
use borrow.Author.Rules.{rules}
use Rattle.reader.proofs.scan.escapes_fine.Goals as goal

pub loop-i-init : goal.loop-i-init
unfolding is_unescaped
loop-i-init c = (search rules, runs_decoded _ _ (c.blocks_of-i.ensures.run is_unescaped (λ b r e. search rules)))

pub loop-i-preserved-then-s-i-ne38 : goal.loop-i-preserved-then-s-i-ne38
loop-i-preserved-then-s-i-ne38 c = (search rules, search fine-loop)

pub returns-in_default : goal.returns-in_default
returns-in_default c = search (fine-loop, piece_entity)

pub overflow_add-i-else-s-i-ne38 : goal.overflow_add-i-else-s-i-ne38
overflow_add-i-else-s-i-ne38 c = search (fine-loop, piece_entity)

pub loop-i-smaller : goal.loop-i-smaller
loop-i-smaller c = search (fine-loop, piece_entity)

pub loop-i-preserved : goal.loop-i-preserved
loop-i-preserved c = (search (fine-loop, piece_entity), search (fine-loop, piece_entity))

pub returns : goal.returns
returns c = search fine-loop
