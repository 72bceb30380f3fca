use Rattle.names.proofs.KeyWalk.{covers_fewer, covers-ends, covers_differs, covers-on}
use Rattle.names.proofs.KeyAlike.{covers-passed}
use Rattle.names.proofs.key.packed_covers.Goals as goal

pub returns-then-n-m : goal.returns-then-n-m
returns-then-n-m c = covers_fewer _ _ _ _ c.if-n-m.true

pub loop-k-init : goal.loop-k-init
loop-k-init c = covers-passed _ _ _ _ _ _ _ c.alike_names-d.ensures c.if-n-m.false

pub returns-then-not-same_bytes : goal.returns-then-not-same_bytes
returns-then-not-same_bytes c = let g = c.args in let l = c.loop-k in covers_differs _ _ l.x.now l.y.now g.m g.n l._k l.invariant _ _ _ _ c.split_name.ensures c.split_name-in-loop-k.ensures c.loop-k-test.true c.if-n-m.false _ c.same_bytes.ensures c.if-not-same_bytes.true

pub loop-k-preserved : goal.loop-k-preserved
loop-k-preserved c = let g = c.args in let l = c.loop-k in covers-on _ _ l.x.now l.y.now g.m g.n l._k l.invariant _ _ _ _ c.split_name.ensures c.split_name-in-loop-k.ensures c.loop-k-test.true c.if-n-m.false _ c.same_bytes.ensures c.if-not-same_bytes.false

pub returns : goal.returns
returns c = let g = c.args in let l = c.loop-k in covers-ends _ _ l.x.now l.y.now g.m g.n l._k l.invariant c.loop-k-test.false
