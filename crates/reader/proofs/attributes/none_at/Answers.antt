use Rattle.reader.proofs.Collect.{none_past, none_other}
use Rattle.reader.proofs.attributes.none_at.Goals as goal

pub returns-then-s-at : goal.returns-then-s-at
returns-then-s-at c = λ e. search none_past

pub returns-else-s-at : goal.returns-else-s-at
returns-else-s-at c = search none_other
