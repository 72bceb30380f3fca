use Rattle.names.proofs.KeyWrite.{pack_none, pack_more}
use Rattle.names.proofs.key.pack_names.Goals as goal

pub loop-i-init : goal.loop-i-init
loop-i-init c = pack_none _ _ _

pub loop-i-preserved : goal.loop-i-preserved
loop-i-preserved c = let p = c.requires.n_bound in pack_more _ _ _ _ _ _ _ _ _ c.requires.names_len.0 c.loop-i-test.true p.0 p.1 c.loop-i.invariant c.held_length-l.ensures c.copy_slot.ensures
