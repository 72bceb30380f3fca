use Rattle.reader.proofs.OpenElementLaws.{moved_self, moved_opened, moved_left}
use Rattle.reader.proofs.open_elements.OpenElements.moved.Goals as goal

pub returns-in-0 : goal.returns-in-0
returns-in-0 c = search moved_opened

pub returns-in-1 : goal.returns-in-1
returns-in-1 c = search moved_self

pub returns-in_default : goal.returns-in_default
returns-in_default c = search moved_left
