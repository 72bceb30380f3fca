use Rattle.reader.proofs.OpenElementLaws.{word-none, word-zero, word-some}
use Rattle.reader.proofs.open_elements.OpenElements.word.Goals as goal

pub returns-then-self-eq0 : goal.returns-then-self-eq0
returns-then-self-eq0 c = search word-none

pub returns-in-0 : goal.returns-in-0
returns-in-0 c = search word-zero

pub returns-in_default : goal.returns-in_default
returns-in_default c = search word-some
