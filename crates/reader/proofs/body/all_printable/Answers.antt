use Rattle.reader.proofs.BodyLaws.{text-behind}
use Rattle.reader.proofs.body.all_printable.Goals as goal

pub returns : goal.returns
returns c = search text-behind
