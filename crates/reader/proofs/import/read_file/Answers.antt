use Rattle.std.specs.Prelude.{Ok, Err}
use Rattle.std.proofs.lemmas.Result.{err_from_is_err_and}
use Rattle.reader.proofs.ImportFile.{first-tag, head_none, head_denied, head_opens, head_ends}
use Rattle.reader.proofs.import.read_file.Goals as goal

pub returns-then-t-ge2 : goal.returns-then-t-ge2
returns-then-t-ge2 c = head_none _ _ _ _ c.requires.begins _ _ c.body_start.ensures.0 _ c.step-t.ensures c.if-t-ge2.true

pub open_odm-requires-clause-attributed : goal.open_odm-requires-clause-attributed
open_odm-requires-clause-attributed c = (search first-tag, search first-tag)

pub returns-in_err-head : goal.returns-in_err-head
returns-in_err-head c = let p = err_from_is_err_and c.from_residual.result c.from_residual.ensures.1 in rw (p.1, p.2) (head_denied _ _ _ _ c.requires.begins _ _ c.body_start.ensures.0 _ c.step-t.ensures c.if-t-ge2.false _ c.in_err-head.ensures)

pub returns-in_err-read_tags : goal.returns-in_err-read_tags
returns-in_err-read_tags c =
    let p = err_from_is_err_and c.from_residual-in_err-read_tags.result c.from_residual-in_err-read_tags.ensures.1 in rw (p.1, p.2)
    (head_opens _ _ _ _ c.requires.begins _ _ c.body_start.ensures.0 _ c.step-t.ensures c.if-t-ge2.false _ c.in_ok-head.ensures c.if-t-eq0.true _ _ _ (Err _) c.in_err-read_tags.ensures)

pub returns-in_err-white_to_end : goal.returns-in_err-white_to_end
returns-in_err-white_to_end c =
    let p = err_from_is_err_and c.from_residual-in_err-white_to_end.result c.from_residual-in_err-white_to_end.ensures.1 in rw (p.1, p.2)
    (head_ends _ _ _ _ c.requires.begins _ _ c.body_start.ensures.0 _ c.step-t.ensures c.if-t-ge2.false _ c.in_ok-head.ensures c.if-t-eq0.false (Err _) c.in_err-white_to_end.ensures)

pub returns-in_ok-read_tags : goal.returns-in_ok-read_tags
returns-in_ok-read_tags c = head_opens _ _ _ _ c.requires.begins _ _ c.body_start.ensures.0 _ c.step-t.ensures c.if-t-ge2.false _ c.in_ok-head.ensures c.if-t-eq0.true _ _ _ (Ok _) c.in_ok-read_tags.ensures

pub returns-in_ok-white_to_end : goal.returns-in_ok-white_to_end
returns-in_ok-white_to_end c = head_ends _ _ _ _ c.requires.begins _ _ c.body_start.ensures.0 _ c.step-t.ensures c.if-t-ge2.false _ c.in_ok-head.ensures c.if-t-eq0.false (Ok _) c.in_ok-white_to_end.ensures
