use Rattle.std.proofs.Common.{sym, ◌∙◌}
use Rattle.reader.proofs.WordLaws.{own_word, remove-broken, word-cases}
use Rattle.reader.proofs.open_elements.word_by.Goals as goal

pub returns-in-true-Some-clause-answered : goal.returns-in-true-Some-clause-answered
returns-in-true-Some-clause-answered c = search word-cases

pub returns-in-true-None-clause-answered : goal.returns-in-true-None-clause-answered
returns-in-true-None-clause-answered c = search word-cases

pub returns-in-true-None-2-clause-answered : goal.returns-in-true-None-2-clause-answered
returns-in-true-None-2-clause-answered c = search word-cases

pub returns-in-false-None-clause-answered : goal.returns-in-false-None-clause-answered
returns-in-false-None-clause-answered c = search word-cases

pub returns-in-false-Some-eq4-clause-answered : goal.returns-in-false-Some-eq4-clause-answered
returns-in-false-Some-eq4-clause-answered c = search word-cases

pub returns-in-Some-eq4-clause-answered : goal.returns-in-Some-eq4-clause-answered
returns-in-Some-eq4-clause-answered c = remove-broken _ _ _ _ _ c.in-false-Some.is-0 c.in-false-Some.is-1 c.in-Some-eq4.is (sym c.in-Some-eq4.field-0-is ∙ c.in-Some-eq4.field-0-test) c.in-false-Some.word-test.1

pub returns-in_default-clause-answered : goal.returns-in_default-clause-answered
returns-in_default-clause-answered c = own_word _ _ _ _ _ c.in-false-Some.is-0 c.in-false-Some.is-1 c.in_default.is (λ q. c.in_default.field-0-test.1 (c.in_default.field-0-is ∙ q))

pub returns-in_default-2-clause-answered : goal.returns-in_default-2-clause-answered
returns-in_default-2-clause-answered c = search word-cases
