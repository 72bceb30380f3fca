use Rattle.reader.proofs.NameLaws.{slot_here, slot_not, slot_empty}
use Rattle.reader.proofs.element.after_slot.Goals as goal
use Rattle.reader.proofs.element.after_slot.Goals.{then-n-eq0-via-then-n-eq0, then-n-eq0-via-else-n-eq0+then-not-begins_at}

pub returns-then-n-eq0 : goal.returns-then-n-eq0
returns-then-n-eq0 c =
    elim c.then-n-eq0.branch [
      | then-n-eq0-via-then-n-eq0 w ↦ slot_empty c.args.names.now c.requires.names c.args.s.now c.args.at c.args.element c.args.slot c.requires.at_in_bounds.1 c.requires.at_in_bounds.2 w.if-n-eq0.true
      | then-n-eq0-via-else-n-eq0+then-not-begins_at w ↦ slot_not c.args.names.now c.requires.names c.args.s.now c.args.at c.args.element c.args.slot c.requires.at_in_bounds.1 c.requires.at_in_bounds.2 _ w.begins_at.ensures c.requires.at_in_bounds.0 w.if-not-begins_at.true
    ]

pub returns : goal.returns
returns c = slot_here c.args.names.now c.requires.names c.args.s.now c.args.at c.args.element c.args.slot c.requires.at_in_bounds.1 c.requires.at_in_bounds.2 c.begins_at.result c.begins_at.ensures c.requires.at_in_bounds.0 c.if-not-begins_at.false c.if-n-eq0.false
