use Rattle.names.proofs.LastEight.{last_differs, last_alike}
use Rattle.names.proofs.Stretch.{begins-less, bytes-start-at}
use Rattle.std.proofs.Common.{◌∙◌}
use Rattle.names.proofs.bytes.begins_at.Goals as goal

pub returns-then-s-at : goal.returns-then-s-at
returns-then-s-at c = let a = c.args in begins-less a.w.now a.s.now a.at c.if-s-at.true

pub returns-then-eight_at : goal.returns-then-eight_at
returns-then-eight_at c = last_differs c.args.s.now c.args.at c.args.w.now c.eight_at.result c.eight_at-then-w-ge8.result c.requires c.if-w-ge8.true c.if-s-at.false c.eight_at.ensures c.eight_at-then-w-ge8.ensures c.if-eight_at.true

pub returns-then-l-alike_on : goal.returns-then-l-alike_on
returns-then-l-alike_on c = last_alike c.args.s.now c.args.at c.args.w.now c.eight_at.result c.eight_at-then-w-ge8.result c.requires c.if-w-ge8.true c.if-s-at.false c.eight_at.ensures c.eight_at-then-w-ge8.ensures c.alike_on.result (λ i. (c.type_inv.s i).fits) (λ i. (c.type_inv.w i).fits) c.alike_on.ensures c.if-l-alike_on.true c.if-eight_at.false

pub returns : goal.returns
returns c = let a = c.args in c.starts_with.ensures.value ∙ bytes-start-at a.w.now a.s.now a.at
