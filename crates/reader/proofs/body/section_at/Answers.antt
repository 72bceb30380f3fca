use Rattle.reader.proofs.BodyLaws.{section_open, section_strange, section_beside, section_here}
use Rattle.reader.proofs.body.section_at.Goals as goal

pub returns-then-s-e : goal.returns-then-s-e
returns-then-s-e c = search section_open

pub returns-then-not-all_printable : goal.returns-then-not-all_printable
returns-then-not-all_printable c = search section_strange

pub returns-in_default : goal.returns-in_default
returns-in_default c = section_beside _ _ _ c.section_end-e.ensures c.if-s-e.false _ c.all_printable.ensures c.if-not-all_printable.false c.in_default.ensures

pub returns : goal.returns
returns c = section_here _ _ _ c.section_end-e.ensures c.if-s-e.false _ c.all_printable.ensures c.if-not-all_printable.false _ c.in-Some.ensures
