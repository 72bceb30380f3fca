use Rattle.names.proofs.KeyCompared.{front-all, front-part}
use Rattle.names.proofs.key.Whole.front_size.Goals as goal

pub returns-then-self-m : goal.returns-then-self-m
returns-then-self-m c = front-all _ _ c.args.self.whole c.args.m c.if-self-m.true

pub returns-else-self-m : goal.returns-else-self-m
returns-else-self-m c = front-part _ _ c.args.self.whole c.args.m _ c.if-self-m.false c.packed_size.ensures
