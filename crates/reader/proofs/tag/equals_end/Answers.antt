use Rattle.reader.proofs.ByteRuns.{equals_bare}
use Rattle.reader.proofs.tag.equals_end.Goals as goal

pub returns : goal.returns
returns c = search equals_bare
