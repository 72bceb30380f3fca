use Rattle.std.specs.Prelude.{Ok, Err}
use Rattle.std.proofs.lemmas.Result.{err_from_is_err_and}
use Rattle.reader.proofs.OpenElementLaws.{held-back}
use Rattle.reader.proofs.TellLaws.{told_wrong, told_finished, told-leaving}
use Rattle.std.proofs.Common.{ap, not, ◌∙◌}
use Rattle.reader.proofs.tell.tell_closing.Goals as goal

pub returns-then-not-element_name_is : goal.returns-then-not-element_name_is
returns-then-not-element_name_is c = told_wrong c.args.s.now c.args.t c.args.elements c.requires.level_bound c.element_name_is.result c.element_name_is.ensures (ap not c.if-not-element_name_is.true)

pub returns-in_err-white_to_end : goal.returns-in_err-white_to_end
returns-in_err-white_to_end c = let p = err_from_is_err_and c.from_residual.result c.from_residual.ensures.1 in rw (p.1, p.2) (told_finished c.args.s.now c.args.t c.args.elements c.requires.level_bound c.element_name_is.result c.element_name_is.ensures (ap not c.if-not-element_name_is.false) c.requires.name_bound (Err _) (search c.if-level-eq0.true) c.in_err-white_to_end.ensures)

pub returns-then-level-eq0 : goal.returns-then-level-eq0
returns-then-level-eq0 c = told_finished c.args.s.now c.args.t c.args.elements c.requires.level_bound c.element_name_is.result c.element_name_is.ensures (ap not c.if-not-element_name_is.false) c.requires.name_bound (Ok tt) (search c.if-level-eq0.true) c.in_ok-white_to_end.ensures

pub returns : goal.returns
returns c = told-leaving c.args.s.now c.args.t c.args.elements c.requires.level_bound c.element_name_is.result c.element_name_is.ensures (ap not c.if-not-element_name_is.false) c.requires.name_bound c.pass.result c.unwrap_or.result c.if-level-eq0.false (c.unwrap_or.ensures ∙ rw c.word.ensures (held-back _)) c.pass.ensures
