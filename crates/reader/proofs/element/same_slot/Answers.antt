use Rattle.std.proofs.Common.{◌∙◌, sym, eq-eqb}
use borrow.Author.Tests.{lt-leb}
use Rattle.std.proofs.lemmas.Bool.{false≢true}
use Rattle.reader.proofs.NameLaws.{same-short, same-other, same-told}
use Rattle.reader.proofs.element.same_slot.Goals as goal
use Rattle.reader.proofs.element.same_slot.Goals.{then-l-ge3, else-l-ge3}

pub returns-then-n-l : goal.returns-then-n-l
returns-then-n-l c =
    let b = c.requires.element_bound in
    elim c.if-l-ge3.branch [
      | then-l-ge3 w ↦ same-told c.args.names.now c.requires.names c.args.element c.args.j b.0 b.1 c.args.n.now c.same_bytes.result w.if-l-ge3.true c.same_bytes.ensures
      | else-l-ge3 w ↦ absurd (false≢true (sym (lt-leb 3 _ w.if-l-ge3.false) ∙ sym w.value-is ∙ c.if-n-l.true))
    ]

pub returns-else-n-l : goal.returns-else-n-l
returns-else-n-l c =
    let b = c.requires.element_bound in
    elim c.if-l-ge3.branch [
      | then-l-ge3 w ↦ c.if-n-l.false ∙ same-other c.args.names.now c.requires.names c.args.element c.args.j b.0 b.1 c.args.n.now (λ q. false≢true (sym c.if-n-l.false ∙ w.value-is ∙ eq-eqb _ _ q))
      | else-l-ge3 w ↦ c.if-n-l.false ∙ same-short c.args.names.now c.requires.names c.args.element c.args.j b.0 b.1 c.args.n.now w.if-l-ge3.false
    ]
