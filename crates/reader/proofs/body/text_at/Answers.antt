use Rattle.reader.proofs.BodyLaws.{less-mark, text-cases}
use borrow.Author.Rules.{rules}
use Rattle.reader.proofs.body.text_at.Goals as goal

pub value_to-requires : goal.value_to-requires
value_to-requires c = search (rules, less-mark)

pub returns-in_default : goal.returns-in_default
returns-in_default c = search text-cases

pub returns-then-section_end-e : goal.returns-then-section_end-e
returns-then-section_end-e c = search text-cases

pub returns : goal.returns
returns c = search text-cases
