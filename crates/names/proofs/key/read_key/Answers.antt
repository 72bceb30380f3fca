use Rattle.std.proofs.Common.{arith, refl, ◌∙◌}
use lib.ListN.{length-set}
use Rattle.names.proofs.KeyReads.{read_none, read_next, unread_fewer, read-stops, read_all, there-high, kept-length}
use Rattle.names.proofs.key.read_key.Goals as goal

pub loop-i-init : goal.loop-i-init
loop-i-init c = (c.requires, refl, refl, refl, read_none _ _ _ _)

pub returns-in_err-b : goal.returns-in_err-b
returns-in_err-b c = let l = c.loop-i in rw c.from_residual.ensures (read-stops c.args.s.now c.args.at c.args.depth _ l.e l.i l.names l.lens l.invariant.4 refl (omega arith) c.in_err-b.ensures)

pub loop-i-preserved : goal.loop-i-preserved
loop-i-preserved c =
    let l = c.loop-i in
    let x = c.in_ok-b.ensures in
    (there-high x, kept-length c.put_bytes.ensures l.invariant.1, length-set l.lens l.i _ ∙ l.invariant.2, unread_fewer l.lens l.i _ l.invariant.3, read_next _ c.args.s.now l.e _ _ _ l.i l.invariant.4 (omega arith) _ x _ _ c.put_bytes.ensures l.invariant.1 l.invariant.2 (omega arith))

pub returns : goal.returns
returns c = let l = c.loop-i in read_all c.args.s.now c.args.at c.args.depth _ l.e l.i l.names l.lens l.invariant.4 refl (omega arith) l.invariant.0 l.invariant.3
