use mathlib.Core.Path.{◌∙◌}
use borrow.Author.Tests.{eq-eqb}
use Rattle.reader.proofs.FormLaws.{formed-cases}
use Rattle.reader.proofs.values.value_formed.Goals as goal

pub returns-then-a-eq0 : goal.returns-then-a-eq0
returns-then-a-eq0 c = eq-eqb _ _ c.if-a-eq0.true ∙ (search formed-cases)

pub returns-else-a-eq0 : goal.returns-else-a-eq0
returns-else-a-eq0 c = search formed-cases
