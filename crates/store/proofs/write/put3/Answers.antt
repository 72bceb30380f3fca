use native.Mathlib.Omega.{arith}
use Rattle.store.proofs.Lists.FilledParts.{part_written}
use Rattle.store.proofs.write.put3.Goals as goal

pub returns : goal.returns
returns c = part_written _ _ _ _ _ c.copy_from_slice.ensures.after (omega arith)
