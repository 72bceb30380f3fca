use Rattle.names.proofs.OverwriteLaws.{writing_more, writing_all}
use Rattle.names.proofs.bytes.put_bytes.Goals as goal

pub loop-i-preserved : goal.loop-i-preserved
loop-i-preserved c = search writing_more

pub returns : goal.returns
returns c = search writing_all
