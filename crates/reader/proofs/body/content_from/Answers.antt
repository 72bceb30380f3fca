use Rattle.std.proofs.lemmas.Result.{err_from_is_err_and}
use Rattle.reader.proofs.ContentLaws.{content-broken, content_unclosed, content_here}
use Rattle.reader.proofs.body.content_from.Goals as goal

pub returns-in_err-held : goal.returns-in_err-held
returns-in_err-held c = let p = err_from_is_err_and c.from_residual.result c.from_residual.ensures.1 in rw (p.1, p.2) (content-broken _ _ _ _ c.in_err-held.ensures)

pub returns-in_err-next : goal.returns-in_err-next
returns-in_err-next c =
    let p = err_from_is_err_and c.from_residual-in_err-next.result c.from_residual-in_err-next.ensures.1 in
    rw (p.1, p.2) (content_unclosed _ _ _ _ c.in_ok-held.ensures _ c.in_err-next.ensures)

pub returns : goal.returns
returns c = content_here _ _ _ _ c.in_ok-held.ensures _ c.in_ok-next.ensures
