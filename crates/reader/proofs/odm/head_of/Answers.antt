use Rattle.reader.proofs.OdmLaws.{heads-made}
use Rattle.reader.proofs.odm.head_of.Goals as goal

pub returns : goal.returns
returns c = search heads-made
