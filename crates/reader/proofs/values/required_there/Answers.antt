use Rattle.std.proofs.Common.{get_or, inl, inr, ◌∙◌}
use borrow.Author.Tests.{eq-eqb, lt-ltb}
use Rattle.reader.proofs.FormLaws.{there_none, there-entity, there-second, there-clinical, there_third, there_fourth, there_fifth}
use Rattle.reader.proofs.values.required_there.Goals as goal
use Rattle.reader.proofs.values.required_there.Goals.{then-c-ne0, else-c-ne0}

pub returns-then-element-gt1 : goal.returns-then-element-gt1
returns-then-element-gt1 c = lt-ltb _ _ c.if-element-gt1.true ∙ there-entity c.args.element c.args.f.starts c.if-a-ne0.true c.if-element-gt1.true

pub returns-then-element-eq1 : goal.returns-then-element-eq1
returns-then-element-eq1 c = eq-eqb _ _ c.if-element-eq1.true ∙ there-clinical c.args.element c.args.f.starts c.if-a-ne0.true c.if-element-gt1.false c.if-b-ne0.true c.if-element-eq1.true

pub returns-then-d-ne0 : goal.returns-then-d-ne0
returns-then-d-ne0 c = there_fifth c.args.element c.args.f.starts c.if-a-ne0.true c.if-element-gt1.false c.if-b-ne0.true c.if-element-eq1.false c.if-d-ne0.true.0 c.if-d-ne0.true.1

pub returns-else-d-ne0 : goal.returns-else-d-ne0
returns-else-d-ne0 c = elim c.if-c-ne0.branch [
  | then-c-ne0 w ↦
      elim c.if-d-ne0.either [
        | inl x ↦ w.t-24-is ∙ rw (eq-eqb (get_or c.args.f.starts 3 0) 0 x.1) (there_fourth c.args.element c.args.f.starts c.if-a-ne0.true c.if-element-gt1.false c.if-b-ne0.true c.if-element-eq1.false w.if-c-ne0.true x.1)
        | inr x ↦ absurd (w.if-c-ne0.true x)
      ]
  | else-c-ne0 w ↦ w.t-24-is ∙ rw (eq-eqb (get_or c.args.f.starts 2 0) 0 w.if-c-ne0.false) (there_third c.args.element c.args.f.starts c.if-a-ne0.true c.if-element-gt1.false c.if-b-ne0.true c.if-element-eq1.false w.if-c-ne0.false)
]

pub returns-else-b-ne0 : goal.returns-else-b-ne0
returns-else-b-ne0 c = rw (eq-eqb (get_or c.args.f.starts 1 0) 0 c.if-b-ne0.false) (there-second c.args.element c.args.f.starts c.if-a-ne0.true c.if-element-gt1.false c.if-b-ne0.false)

pub returns-else-a-ne0 : goal.returns-else-a-ne0
returns-else-a-ne0 c = rw (eq-eqb (get_or c.args.f.starts 0 0) 0 c.if-a-ne0.false) (there_none c.args.element c.args.f.starts c.if-a-ne0.false)
