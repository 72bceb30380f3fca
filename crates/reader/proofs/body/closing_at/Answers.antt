use Rattle.reader.proofs.ContentLaws.{closing-plain}
use Rattle.reader.proofs.body.closing_at.Goals as goal

pub returns-in-Some : goal.returns-in-Some
returns-in-Some c = closing-plain _ _ _ _ c.requires.b_value c.in-Some.ensures
