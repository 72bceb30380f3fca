use Rattle.store.proofs.Layouts.KeySizes.{rows-down}
use Rattle.store.proofs.layout.Image.rows_fit.Goals as goal

pub returns-in_default : goal.returns-in_default
returns-in_default c = search (rows-down, c.in_default.ensures)

pub loop-i-preserved : goal.loop-i-preserved
loop-i-preserved c = (search (rows-down, c.in-Some.ensures), search (rows-down, c.in-Some.ensures))

pub returns : goal.returns
returns c = search rows-down
