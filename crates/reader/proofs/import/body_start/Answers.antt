use Rattle.reader.proofs.ImportFile.{body-laws}
use borrow.Author.Rules.{rules}
use Rattle.reader.proofs.import.body_start.Goals as goal

pub returns-then-begins_at : goal.returns-then-begins_at
returns-then-begins_at c = (search body-laws, search body-laws)

pub returns-else-begins_at : goal.returns-else-begins_at
returns-else-begins_at c = (search body-laws, search rules)
