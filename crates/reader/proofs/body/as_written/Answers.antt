use Rattle.reader.proofs.ContentLaws.{written-cases}
use Rattle.reader.proofs.body.as_written.Goals as goal

pub returns-then-kind-eq1 : goal.returns-then-kind-eq1
returns-then-kind-eq1 c = search written-cases

pub returns : goal.returns
returns c = search written-cases
