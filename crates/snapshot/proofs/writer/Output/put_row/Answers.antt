use native.Mathlib.Omega.{arith}
use Rattle.snapshot.proofs.PieceTexts.{row_put}
use Rattle.snapshot.proofs.writer.Output.put_row.Goals as goal

pub returns : goal.returns
returns c = (search row_put, omega arith)
