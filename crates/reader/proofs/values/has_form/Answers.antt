use Rattle.std.proofs.Common.{◌∙◌}
use Rattle.reader.proofs.FormLaws.{form-arms}
use Rattle.reader.proofs.values.has_form.Goals as goal

pub returns-in-3 : goal.returns-in-3
returns-in-3 c = search form-arms

pub returns-in-4 : goal.returns-in-4
returns-in-4 c = search form-arms

pub returns-in-6 : goal.returns-in-6
returns-in-6 c = search form-arms

pub returns-in-7 : goal.returns-in-7
returns-in-7 c = search form-arms

pub returns-in-8 : goal.returns-in-8
returns-in-8 c = let told = c.is_some.ensures ∙ c.word_number.ensures.1 in search form-arms

pub returns-in-9 : goal.returns-in-9
returns-in-9 c = search form-arms

pub returns-in-11 : goal.returns-in-11
returns-in-11 c = search form-arms

pub returns-in-12 : goal.returns-in-12
returns-in-12 c = search form-arms

pub returns-in-13 : goal.returns-in-13
returns-in-13 c = search form-arms

pub returns-in_default : goal.returns-in_default
returns-in_default c = search form-arms
