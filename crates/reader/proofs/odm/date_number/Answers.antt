use Rattle.reader.proofs.OdmLaws.{date-numbers}
use Rattle.reader.proofs.odm.date_number.Goals as goal

pub returns-then-start_at-eq0-clause-value : goal.returns-then-start_at-eq0-clause-value
returns-then-start_at-eq0-clause-value c = search date-numbers

pub returns-else-start_at-eq0-clause-value : goal.returns-else-start_at-eq0-clause-value
returns-else-start_at-eq0-clause-value c = search date-numbers
