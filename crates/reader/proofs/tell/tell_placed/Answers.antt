use Rattle.reader.proofs.TellLaws.{told-broken, told-closing, told-opening}
use Rattle.reader.proofs.tell.tell_placed.Goals as goal

pub returns-then-t-eq3 : goal.returns-then-t-eq3
returns-then-t-eq3 c = told-broken c.args.s.now c.args.t c.args.snapshot c.args.elements c.if-t-eq3.true

pub returns-then-t-eq2 : goal.returns-then-t-eq2
returns-then-t-eq2 c = told-closing c.args.s.now c.args.t c.args.snapshot c.args.elements c.tell_closing.result c.if-t-eq2.true c.tell_closing.ensures

pub returns : goal.returns
returns c = told-opening c.args.s.now c.args.t c.args.snapshot c.args.elements _ c.if-t-eq3.false c.tell_opening.ensures
