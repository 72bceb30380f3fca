use Rattle.std.proofs.Common.{arith, sym, ◌∙◌}
use borrow.Author.Tests.{eqb-false, ltb-false}
use Rattle.names.proofs.KeyCompared.{ends-later}
use Rattle.names.proofs.key.Whole.ends_before.Goals as goal
use Rattle.names.proofs.key.Whole.ends_before.Goals.{then-m-eq0, else-m-eq0}

pub returns-else-self-t : goal.returns-else-self-t
returns-else-self-t c =
    elim c.if-m-eq0.branch [
      | then-m-eq0 w ↦ absurd (eqb-false _ _ (sym w.value-is ∙ c.if-self-t.false) w.if-m-eq0.true)
      | else-m-eq0 w ↦ c.if-self-t.false ∙ ends-later _ _ c.args.self.whole _ _ c.requires (omega arith) (ltb-false _ _ (sym w.value-is ∙ c.if-self-t.false))
    ]
