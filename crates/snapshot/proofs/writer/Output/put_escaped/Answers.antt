use native.Mathlib.Omega.{arith}
use Rattle.snapshot.proofs.ByteTexts.{plain_put}
use Rattle.snapshot.proofs.writer.Output.put_escaped.Goals as goal

pub returns-then-all_plain : goal.returns-then-all_plain
returns-then-all_plain c = (search plain_put, omega arith)
