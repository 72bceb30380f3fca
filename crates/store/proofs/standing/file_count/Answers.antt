use Rattle.store.proofs.Calls.StandingLaws.{valid-count}
use Rattle.store.proofs.standing.file_count.Goals as goal

pub returns : goal.returns
returns c = search valid-count
