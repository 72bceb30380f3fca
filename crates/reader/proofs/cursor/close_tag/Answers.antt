use Rattle.reader.proofs.Steps.{close_open, close_here}
use Rattle.reader.proofs.cursor.close_tag.Goals as goal

pub returns-in-None : goal.returns-in-None
returns-in-None c = close_open _ _ _ _ c.requires.name_end _ c.skip_white-a.ensures c.in-None.ensures _ c.broken_tag.ensures

pub returns-in-Some : goal.returns-in-Some
returns-in-Some c = close_here _ _ _ _ c.requires.name_end _ c.skip_white-a.ensures _ c.in-Some.ensures _ c.plain_tag.ensures
