use native.Mathlib.Omega.{arith}
use Rattle.snapshot.proofs.SnapshotTexts.{clinical_put}
use Rattle.snapshot.proofs.writer.Output.put_clinical.Goals as goal

pub returns : goal.returns
returns c = (search clinical_put, omega arith)
