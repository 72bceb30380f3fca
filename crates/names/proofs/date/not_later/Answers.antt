use Rattle.std.proofs.Common.{◌∙◌}
use Rattle.names.proofs.DateLaws.{told_not_later}
use Rattle.names.proofs.date.not_later.Goals as goal

pub returns : goal.returns
returns c = c.is_le.ensures ∙ told_not_later _ _ _ c.bytes_order.ensures
