use Rattle.std.proofs.Common.{◌∙◌}
use Rattle.names.proofs.KeyWalk.{names_compared}
use Rattle.names.proofs.KeyCompared.{compared_counts, compared_ancestor, compared_byte, compared_name}
use Rattle.names.proofs.key.compare_bytes.Goals as goal

pub returns-then-w-t : goal.returns-then-w-t
returns-then-w-t c = c.cmp.ensures ∙ compared_counts c.args.x.now c.args.m c.args.y.bytes.now c.args.y.count c.first_difference-t.result c.args.y.whole c.first_difference-t.ensures c.if-w-t.true

pub returns-then-ends_before : goal.returns-then-ends_before
returns-then-ends_before c = compared_ancestor c.args.x.now c.args.m c.args.y.bytes.now c.args.y.count c.first_difference-t.result c.args.y.whole c.first_difference-t.ensures c.if-w-t.false c.ends_before.result c.ends_before.ensures c.if-ends_before.true

pub returns-then-w-t-gt16 : goal.returns-then-w-t-gt16
returns-then-w-t-gt16 c = c.cmp-then-w-t-gt16.ensures ∙ compared_byte c.args.x.now c.args.m c.args.y.bytes.now c.args.y.count c.first_difference-t.result c.args.y.whole c.first_difference-t.ensures c.if-x-w.false c.if-w-t.false c.ends_before.result c.ends_before.ensures c.if-ends_before.false c.if-w-t-gt16.true

pub returns-in_default : goal.returns-in_default
returns-in_default c = compared_name c.args.x.now c.args.m c.args.y.bytes.now c.args.y.count c.first_difference-t.result c.args.y.whole c.first_difference-t.ensures c.if-x-w.false c.if-w-t.false c.ends_before.result c.ends_before.ensures c.if-ends_before.false c.if-w-t-gt16.false c.bytes_order.result (names_compared c.args.x.now c.args.y.bytes.now _ _ _ _ c.split_name.ensures.0 c.split_name-2.ensures.0 c.bytes_order.ensures) c.in_default.not-Equal
