use Rattle.store.proofs.Layouts.FileReads.{kept-date}
use Rattle.store.proofs.layout.not_before.Goals as goal

pub returns : goal.returns
returns c = search kept-date
