use Rattle.reader.proofs.BodyLaws.{cutting_none, cutting_block}
use Rattle.reader.proofs.body.endless_blocks.Goals as goal

pub loop-i-init : goal.loop-i-init
loop-i-init c = search cutting_none

pub loop-i-preserved : goal.loop-i-preserved
loop-i-preserved c = search cutting_block
