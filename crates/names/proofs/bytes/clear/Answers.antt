use Rattle.names.proofs.OverwriteLaws.{part-filled}
use Rattle.names.proofs.bytes.clear.Goals as goal

pub returns : goal.returns
returns c = let a = c.args in part-filled _ a.a a.e _ _ c.requires.0 c.requires.1 (c.fill.ensures.after (λ y e. e))
