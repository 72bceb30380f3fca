use Rattle.reader.proofs.Pieces.{equals-no, equals_here}
use Rattle.reader.proofs.tag.spaced_equals.Goals as goal

pub returns-in_err-b : goal.returns-in_err-b
returns-in_err-b c = rw c.from_residual.ensures (equals-no _ _ _ c.skip_white-a.ensures c.in_err-b.ensures)

pub returns : goal.returns
returns c = equals_here _ _ _ c.skip_white-a.ensures _ c.in_ok-b.ensures _ c.skip_white.ensures
