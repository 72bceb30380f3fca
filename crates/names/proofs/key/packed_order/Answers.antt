use Rattle.std.proofs.Common.{arith, sym, ◌∙◌}
use Rattle.names.proofs.KeyWalk.{order-over, order-here, order-on_here}
use Rattle.names.proofs.key.packed_order.Goals as goal

pub returns-then-is_ne : goal.returns-then-is_ne
returns-then-is_ne c = let g = c.args in let l = c.loop-k in order-here _ _ l.x.now l.y.now g.m g.n l._k l.invariant _ _ _ _ c.split_name.ensures c.split_name-in-loop-k.ensures (omega arith) _ c.bytes_order-o.ensures (sym c.is_ne.ensures ∙ c.if-is_ne.true)

pub loop-k-preserved : goal.loop-k-preserved
loop-k-preserved c = let g = c.args in let l = c.loop-k in order-on_here _ _ l.x.now l.y.now g.m g.n l._k l.invariant _ _ _ _ c.split_name.ensures c.split_name-in-loop-k.ensures (omega arith) _ c.bytes_order-o.ensures (sym c.is_ne.ensures ∙ c.if-is_ne.false)

pub returns : goal.returns
returns c = let g = c.args in let l = c.loop-k in c.cmp.ensures ∙ order-over _ _ l.x.now l.y.now g.m g.n l._k l.invariant (omega arith)
