use Rattle.reader.proofs.EntityLaws.{body-short, body-stretch, body-given, value-given}
use borrow.Author.Rules.{rules}
use Rattle.reader.proofs.entity.put_given.Goals as goal

pub put_body-requires : goal.put_body-requires
put_body-requires c = search (rules, body-short, body-stretch)

pub returns-then-t-gt6 : goal.returns-then-t-gt6
returns-then-t-gt6 c = search body-given

pub returns : goal.returns
returns c = search value-given
