use Rattle.reader.proofs.ActLaws.{plans_idle, plans-end, plans-clinical, plans-entity}
use Rattle.reader.proofs.act.plan_tag.Goals as goal

pub returns-then-is_idle : goal.returns-then-is_idle
returns-then-is_idle c = search plans_idle

pub returns-then-told-eq2 : goal.returns-then-told-eq2
returns-then-told-eq2 c = search plans-end

pub returns-then-depth-eq0 : goal.returns-then-depth-eq0
returns-then-depth-eq0 c = plans-clinical _ _ _ _ _ _ _ _ _ _ c.requires.0 _ c.is_idle.ensures c.if-is_idle.false _ _ c.if-told-eq2.false c.if-depth-eq0.true c.plan_clinical.ensures.changes c.plan_clinical.ensures.kind

pub returns : goal.returns
returns c = plans-entity _ _ _ _ _ _ _ _ _ _ c.requires.0 _ c.is_idle.ensures c.if-is_idle.false _ _ c.if-told-eq2.false c.if-depth-eq0.false c.plan_entity.ensures
