use Rattle.store.proofs.Layouts.KeyWalk.{name-behind}
use Rattle.store.proofs.layout.behind_name.Goals as goal

pub returns-in_err-n : goal.returns-in_err-n
returns-in_err-n c = rw c.from_residual.ensures (search (name-behind, c.in_err-n.ensures.cases))

pub returns-in_err-name : goal.returns-in_err-name
returns-in_err-name c = rw c.from_residual-in_err-name.ensures (search (name-behind, c.in_ok-n.ensures.cases.0, c.in_err-name.ensures.cases))

pub returns-then-is_name_by : goal.returns-then-is_name_by
returns-then-is_name_by c = let d = c.in_ok-name.ensures.cases in search (name-behind, c.in_ok-n.ensures.cases.0, d.0, d.1, d.2)

pub returns-else-is_name_by : goal.returns-else-is_name_by
returns-else-is_name_by c = let d = c.in_ok-name.ensures.cases in search (name-behind, c.in_ok-n.ensures.cases.0, d.0, d.1)
