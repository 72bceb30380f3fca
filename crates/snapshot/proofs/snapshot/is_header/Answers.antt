use Rattle.names.proofs.PickLaws.{ands}
use Rattle.snapshot.proofs.snapshot.is_header.Goals as goal

pub returns-then-is_long_name : goal.returns-then-is_long_name
returns-then-is_long_name c = search ands

pub returns-else-is_long_name : goal.returns-else-is_long_name
returns-else-is_long_name c = rw c.if-is_long_name.false (search ands)
