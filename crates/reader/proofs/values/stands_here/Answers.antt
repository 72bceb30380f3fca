use mathlib.Core.Path.{refl}
use Rattle.names.specs.Pick.{◌and◌}
use Rattle.reader.specs.code.Values.{named_here}
use Rattle.reader.proofs.FormLaws.{other-on}
use Rattle.reader.proofs.values.stands_here.Goals as goal

pub returns-then-level-ne7 : goal.returns-then-level-ne7
unfolding named_here
returns-then-level-ne7 c = search other-on

pub returns-else-level-ne7 : goal.returns-else-level-ne7
unfolding named_here ◌and◌
returns-else-level-ne7 c = rw c.if-level-ne7.false refl
