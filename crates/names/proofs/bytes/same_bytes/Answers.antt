use Rattle.std.proofs.Common.{◌∙◌}
use Rattle.names.proofs.Stretch.{bytes-eq}
use Rattle.names.proofs.bytes.same_bytes.Goals as goal

pub returns : goal.returns
returns c = c.eq.ensures ∙ bytes-eq _ _
