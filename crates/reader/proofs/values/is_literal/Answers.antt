use Rattle.reader.proofs.FormLaws.{literals}
use Rattle.reader.proofs.values.is_literal.Goals as goal

pub returns-in-1 : goal.returns-in-1
returns-in-1 c = search literals

pub returns-in-5 : goal.returns-in-5
returns-in-5 c = search literals
