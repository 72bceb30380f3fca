use Rattle.std.proofs.lemmas.Result.{err_from_is_err_and}
use Rattle.reader.proofs.TellLaws.{content-refused, content-stretch, content_printable, content_unfit, content-fits}
use borrow.Author.Rules.{rules}
use Rattle.reader.proofs.tell.tell_typed.Goals as goal

pub returns-in_err-c : goal.returns-in_err-c
returns-in_err-c c = let p = err_from_is_err_and c.from_residual.result c.from_residual.ensures.1 in rw (p.1, p.2) (content-refused _ _ _ _ _ c.requires.typed _ c.in_err-c.ensures)

pub body_fits-requires : goal.body_fits-requires
body_fits-requires c = record { classes = search rules; body_stretch = content-stretch _ _ _ _ _ c.requires.typed _ c.in_ok-c.ensures; c_value = content_printable _ _ _ _ _ c.requires.typed _ c.in_ok-c.ensures }

pub returns-then-body_fits : goal.returns-then-body_fits
returns-then-body_fits c = content-fits _ _ _ _ _ c.requires.typed _ c.in_ok-c.ensures _ _ c.body_fits.ensures c.if-body_fits.true c.go_on.ensures

pub returns-else-body_fits : goal.returns-else-body_fits
returns-else-body_fits c = content_unfit _ _ _ _ _ c.requires.typed _ c.in_ok-c.ensures _ c.body_fits.ensures c.if-body_fits.false
