use Rattle.std.proofs.Common.{rules, arith}
use Rattle.names.proofs.KeyAlike.{alike_none, passing_none, passing_more}
use Rattle.names.proofs.key.alike_names.Goals as goal

pub loop-count-init : goal.loop-count-init
loop-count-init c = ((search rules), alike_none _ _ _ _ c.requires.0 c.requires.1, passing_none _ _ _ _)

pub loop-count-preserved : goal.loop-count-preserved
loop-count-preserved c = let a = c.alike_on-t-in-loop-count.ensures in (c.if-t-e.false, a, passing_more _ _ _ _ _ _ _ c.loop-count.invariant.2 a (omega arith) c.if-t-e.false)
