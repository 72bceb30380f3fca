use Rattle.reader.proofs.OwnLaws.{lengths_put}
use Rattle.reader.proofs.entity.hold_lengths.Goals as goal

pub returns : goal.returns
returns c = search lengths_put
