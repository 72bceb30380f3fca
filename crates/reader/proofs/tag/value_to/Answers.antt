use Rattle.reader.proofs.ByteRuns.{bare_to}
use Rattle.reader.proofs.tag.value_to.Goals as goal

pub returns-then-s-p : goal.returns-then-s-p
returns-then-s-p c = search bare_to
