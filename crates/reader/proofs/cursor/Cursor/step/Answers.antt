use Rattle.reader.proofs.Steps.{step_broken, step_on}
use Rattle.reader.proofs.cursor.Cursor.step.Goals as goal

pub returns-in-None : goal.returns-in-None
returns-in-None c = step_broken _ _ _ _ c.skip_white-a.ensures _ c.in-None.ensures c.broken_tag.ensures

pub returns-in-Some : goal.returns-in-Some
returns-in-Some c = step_on _ _ _ _ c.skip_white-a.ensures _ _ c.in-Some.ensures c.read_tag.ensures
