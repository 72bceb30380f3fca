use Rattle.names.proofs.KeyCompared.{whole-lent, order_lent}
use Rattle.names.proofs.key.key_order.Goals as goal

pub invariant_of-compare_bytes : goal.invariant_of-compare_bytes
invariant_of-compare_bytes c = record { whole = (whole-lent _ _ _ _ c.requires.whole_key).0 }

pub returns-in-Some : goal.returns-in-Some
returns-in-Some c = order_lent c.args.a.now c.args.p c.args.m c.args.b.now c.args.q c.args.n c.args.size c.requires.whole_key _ c.in-Some.ensures

pub returns-in-None : goal.returns-in-None
returns-in-None c = order_lent c.args.a.now c.args.p c.args.m c.args.b.now c.args.q c.args.n c.args.size c.requires.whole_key _ c.packed_order.ensures
