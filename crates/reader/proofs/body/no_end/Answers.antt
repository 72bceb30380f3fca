use Rattle.std.proofs.Common.{refl, arith}
use Rattle.names.specs.Pick.{◌and◌}
use Rattle.reader.proofs.BodyLaws.{endless_next, endless-end}
use Rattle.reader.proofs.body.no_end.Goals as goal

pub loop-i-init : goal.loop-i-init
unfolding ◌and◌
loop-i-init c = refl

pub loop-i-preserved : goal.loop-i-preserved
loop-i-preserved c = endless_next _ _ _ c.loop-i.invariant _ c.ends_section.ensures (omega arith)

pub returns : goal.returns
returns c = endless-end _ _ _ c.loop-i.invariant (omega arith)
