use Rattle.reader.proofs.ExpectedLaws.{element-ends}
use Rattle.reader.proofs.cursor.element_end.Goals as goal

pub returns-in-Some : goal.returns-in-Some
returns-in-Some c = element-ends _ _ _ _ _ c.in-Some.ensures c.is_tag_byte.ensures c.if-n-s.true c.if-not-is_tag_byte.true c.requires.at_in_bounds.1
