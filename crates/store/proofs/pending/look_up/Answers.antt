use Rattle.store.proofs.Calls.PendingLaws.{found_live}
use Rattle.store.proofs.pending.look_up.Goals as goal

pub returns-clause-live_value : goal.returns-clause-live_value
returns-clause-live_value c = found_live _ _ _ _ c.requires.taking _ _ _ c.find.ensures
