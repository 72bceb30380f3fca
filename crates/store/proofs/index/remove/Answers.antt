use Rattle.store.proofs.Indexing.Shift.{copied-down}
use Rattle.store.proofs.index.remove.Goals as goal

pub returns : goal.returns
returns c = rw c.copy_within.ensures.after (search copied-down)
