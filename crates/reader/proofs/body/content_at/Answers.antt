use Rattle.reader.proofs.ContentLaws.{content-self}
use Rattle.reader.proofs.body.content_at.Goals as goal

pub returns-then-t-eq1 : goal.returns-then-t-eq1
returns-then-t-eq1 c = search content-self
