-- The table's rule is one test of its 108 slots, which antt computes.
use mathlib.Core.Path.{refl}
use Rattle.reader.proofs.NameLaws.{name-rules, names_hold}
use Rattle.reader.proofs.element.element_names.Goals as goal

pub returns : goal.returns
unfolding name-rules
returns c = names_hold _ refl refl
