use Rattle.reader.proofs.OwnLaws.{names-put}
use Rattle.reader.proofs.entity.hold_names.Goals as goal

pub returns : goal.returns
returns c = search names-put
