use Rattle.store.proofs.Calls.PendingLaws.{loaded-begins}
use Rattle.store.proofs.pending.load_image.Goals as goal

pub returns-clause-loaded_by : goal.returns-clause-loaded_by
returns-clause-loaded_by c = loaded-begins _ _ _ _ _ c.in_ok-live.ensures.judged
