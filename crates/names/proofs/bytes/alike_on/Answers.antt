use Rattle.names.proofs.KeyAlike.{alike-more}
use Rattle.names.proofs.bytes.alike_on.Goals as goal

pub loop-t-preserved : goal.loop-t-preserved
loop-t-preserved c = alike-more _ _ _ _ _ _ _ (λ i. (c.type_inv.a i).fits) (λ i. (c.type_inv.b i).fits) c.loop-t.invariant c.if-a-p-ge8.true c.if-b-q-ge8.true c.eight_at.ensures c.eight_at-then-b-q-ge8.ensures c.if-eight_at.true
