use Rattle.reader.proofs.DecisionLaws.{entity_planned}
use Rattle.reader.proofs.act.plan_entity.Goals as goal

pub returns : goal.returns
returns c = entity_planned _ _ _ _ _ _ c.args.told.content c.args.told.kind c.args.told.word _ _ c.requires.taking c.requires.entity_opens _ _ c.plan_end-p.ensures _ _ c.put_given-end.ensures _ c.is_given.ensures _ c.plan_word.ensures
