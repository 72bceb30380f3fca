use mathlib.Core.Path.{refl}
use Rattle.names.specs.Pick.{◌and◌}
use Rattle.reader.specs.code.Values.{stands_alone}
use Rattle.reader.proofs.FormLaws.{other-on}
use Rattle.reader.proofs.values.stands_alone.Goals as goal

pub returns-then-b-ne38 : goal.returns-then-b-ne38
unfolding stands_alone
returns-then-b-ne38 c = search other-on

pub returns-else-b-ne38 : goal.returns-else-b-ne38
unfolding stands_alone ◌and◌
returns-else-b-ne38 c = rw c.if-b-ne38.false refl
