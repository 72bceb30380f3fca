use Rattle.reader.proofs.ExpectedLaws.{double_quote, expected_broken, expected_met}
use Rattle.reader.proofs.attributes.Row.expected_at.Goals as goal

pub value_to-requires-clause-q_value : goal.value_to-requires-clause-q_value
value_to-requires-clause-q_value c = double_quote

pub returns-in-None : goal.returns-in-None
returns-in-None c = expected_broken _ _ _ _ _ c.args.self.now.in_table c.if-j-ge8.false c.in-Some.ensures _ c.value_to.ensures c.in-None.is

pub returns-in-Some-value_to : goal.returns-in-Some-value_to
returns-in-Some-value_to c = expected_met _ _ _ _ _ c.args.self.now.in_table c.if-j-ge8.false c.in-Some.ensures _ c.value_to.ensures _ c.in-Some-value_to.is
