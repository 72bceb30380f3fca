use native.Mathlib.Omega.{arith}
use Rattle.snapshot.proofs.SnapshotTexts.{odm_put}
use Rattle.snapshot.proofs.writer.Output.put_odm.Goals as goal

pub returns : goal.returns
returns c = (search odm_put, omega arith)
