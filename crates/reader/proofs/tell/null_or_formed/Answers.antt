use mathlib.Core.Path.{◌∙◌}
use borrow.Author.Tests.{eq-eqb, lt-leb}
use Rattle.reader.proofs.TellLaws.{fits-cases}
use Rattle.reader.proofs.tell.null_or_formed.Goals as goal

pub returns-then-v-eq0 : goal.returns-then-v-eq0
returns-then-v-eq0 c = eq-eqb _ _ c.if-v-eq0.true ∙ (search fits-cases)

pub returns-then-v-le-VALUE_MOST : goal.returns-then-v-le-VALUE_MOST
returns-then-v-le-VALUE_MOST c = search fits-cases

pub returns-else-v-le-VALUE_MOST : goal.returns-else-v-le-VALUE_MOST
returns-else-v-le-VALUE_MOST c = lt-leb _ _ c.if-v-le-VALUE_MOST.false ∙ (search fits-cases)
