use native.Mathlib.Omega.{arith}
use Rattle.snapshot.proofs.SnapshotTexts.{list_put}
use Rattle.snapshot.proofs.writer.Output.put_snapshot.Goals as goal

pub returns : goal.returns
returns c = (search list_put, omega arith)
