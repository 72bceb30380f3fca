use Rattle.reader.specs.code.ElementNames.{slot_code}
use Rattle.reader.proofs.element.body_form.Goals as goal

pub returns : goal.returns
unfolding slot_code
returns c = c.slot_form.ensures
