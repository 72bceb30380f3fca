use Rattle.store.proofs.Indexing.Shift.{copied-up}
use Rattle.store.proofs.index.insert.Goals as goal

pub returns : goal.returns
returns c = rw c.copy_within.ensures.after (search copied-up)
