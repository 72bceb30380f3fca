use Rattle.store.proofs.Layouts.KeyWalk.{name-behind, repeat_absent, repeat_as_name}
use Rattle.store.proofs.layout.behind_repeat.Goals as goal

pub returns-in_err-n : goal.returns-in_err-n
returns-in_err-n c = rw c.from_residual.ensures (search (name-behind, c.in_err-n.ensures.cases))

pub returns-then-n-eq0 : goal.returns-then-n-eq0
returns-then-n-eq0 c = repeat_absent _ _ (rw c.if-n-eq0.true at c.in_ok-n.ensures.cases.0)

pub returns-else-n-eq0 : goal.returns-else-n-eq0
returns-else-n-eq0 c = let e = repeat_as_name _ _ _ c.in_ok-n.ensures.cases.0 c.if-n-eq0.false in rw e at c.behind_name.ensures
