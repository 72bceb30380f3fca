use Rattle.reader.proofs.ActAnswers.{carried_none, carried_out}
use Rattle.reader.proofs.act.add_planned.Goals as goal

pub returns-in-None : goal.returns-in-None
returns-in-None c = carried_none _ _ _ _ c.requires.taking _ _ c.args.p _ c.in-None.is c.unchanged.ensures

pub returns-in-Some : goal.returns-in-Some
returns-in-Some c = carried_out _ _ _ _ c.requires.taking _ _ c.args.p _ c.in-Some.is _ c.from.ensures _ _ _ _ c.add_change.ensures.result_after c.add_change.ensures.added_to
