use Rattle.names.proofs.KeyCompared.{left_all, left_fewer}
use Rattle.names.proofs.key.packed_size.Goals as goal

pub loop-k-init : goal.loop-k-init
loop-k-init c = left_all _ _ c.requires

pub loop-k-preserved : goal.loop-k-preserved
loop-k-preserved c = left_fewer _ _ _ _ _ c.loop-k.invariant c.split_name.ensures.1
