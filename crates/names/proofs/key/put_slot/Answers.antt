use Rattle.names.proofs.KeyHeld.{slot_none, slot-put}
use Rattle.names.proofs.key.put_slot.Goals as goal

pub returns-then-i-lt8 : goal.returns-then-i-lt8
returns-then-i-lt8 c = search slot-put

pub returns-else-i-lt8 : goal.returns-else-i-lt8
returns-else-i-lt8 c = search slot_none
