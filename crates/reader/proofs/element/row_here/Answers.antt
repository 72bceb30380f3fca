use Rattle.reader.proofs.ElementPlaced.{row_level, row-short-part}
use borrow.Author.Rules.{rules}
use Rattle.reader.proofs.element.row_here.Goals as goal

pub returns-then-level-ne6 : goal.returns-then-level-ne6
returns-then-level-ne6 c = (search row_level, search rules)

pub returns-then-b-a-le8 : goal.returns-then-b-a-le8
returns-then-b-a-le8 c = (search row-short-part, search rules)
