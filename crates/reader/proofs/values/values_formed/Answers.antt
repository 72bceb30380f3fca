use Rattle.reader.proofs.FormLaws.{formed-end, formed_stop, formed_fails, formed-on}
use Rattle.std.proofs.Common.{ap, not, refl}
use Rattle.reader.proofs.values.values_formed.Goals as goal

pub returns-in_default : goal.returns-in_default
returns-in_default c = formed_stop c.args.t.element c.args.s.now _ _ c.loop-j.invariant _ refl c.in_default.ensures

pub returns-then-not-value_formed : goal.returns-then-not-value_formed
returns-then-not-value_formed c = formed_fails c.args.t.element c.args.s.now _ _ c.loop-j.invariant _ c.in-Some.ensures.0 c.in-Some.ensures.1 _ c.value_formed.ensures (ap not c.if-not-value_formed.true)

pub loop-j-preserved : goal.loop-j-preserved
loop-j-preserved c = formed-on c.args.t.element c.args.s.now _ _ c.loop-j.invariant _ c.in-Some.ensures.0 c.in-Some.ensures.1 _ c.value_formed.ensures (ap not c.if-not-value_formed.false)

pub returns : goal.returns
returns c = formed-end c.args.t.element c.args.s.now _ _ c.loop-j.invariant c.requires.element_bound c.loop-j-test.false
