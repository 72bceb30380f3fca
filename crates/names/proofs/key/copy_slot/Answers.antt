use Rattle.names.proofs.KeyWrite.{slot_copied}
use Rattle.names.proofs.key.copy_slot.Goals as goal

pub returns : goal.returns
returns c = slot_copied _ _ _ _ _ _ c.put_bytes.ensures
