use Rattle.reader.proofs.FormLaws.{written-arms}
use Rattle.reader.proofs.values.written_form.Goals as goal

pub returns-in-6 : goal.returns-in-6
returns-in-6 c = search written-arms

pub returns-in-7 : goal.returns-in-7
returns-in-7 c = search written-arms

pub returns-in-9 : goal.returns-in-9
returns-in-9 c = search written-arms

pub returns-in_default : goal.returns-in_default
returns-in_default c = search written-arms
