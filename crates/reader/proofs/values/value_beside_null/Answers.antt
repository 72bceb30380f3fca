use mathlib.Core.Path.{refl}
use borrow.Author.Tests.{ne_eqb}
use Rattle.names.specs.Pick.{◌and◌}
use Rattle.reader.specs.code.Values.{beside_null}
use Rattle.reader.proofs.values.value_beside_null.Goals as goal
use Rattle.reader.proofs.values.value_beside_null.Goals.{then-element-eq6, else-element-eq6}

pub returns-then-f-ne0 : goal.returns-then-f-ne0
unfolding beside_null ◌and◌
returns-then-f-ne0 c = elim c.if-element-eq6.branch [
  | then-element-eq6 w ↦ rw (w.if-element-eq6.true, ← w.value-is, c.if-f-ne0.true) refl
  | else-element-eq6 w ↦ (let z = ne_eqb c.args.element 6 w.if-element-eq6.false in cc)
]

pub returns-else-f-ne0 : goal.returns-else-f-ne0
unfolding beside_null ◌and◌
returns-else-f-ne0 c = elim c.if-element-eq6.branch [
  | then-element-eq6 w ↦ rw (w.if-element-eq6.true, ← w.value-is, c.if-f-ne0.false) refl
  | else-element-eq6 w ↦ rw (ne_eqb c.args.element 6 w.if-element-eq6.false, c.if-f-ne0.false) refl
]
