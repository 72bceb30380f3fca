use Rattle.reader.proofs.Pieces.{end_open, end_none, end_half, end_whole}
use borrow.Author.Rules.{rules}
use Rattle.reader.proofs.tag.tag_end.Goals as goal

pub returns-in-Some : goal.returns-in-Some
returns-in-Some c = record { result_value = end_open _ _ _ c.skip_white-a.ensures _ c.in-Some.ensures; end_within = search rules }

pub returns-in_err-d : goal.returns-in_err-d
returns-in_err-d c = rw c.from_residual.ensures record { result_value = end_none _ _ _ c.skip_white-a.ensures c.in_default.ensures c.in_err-d.ensures; end_within = tt }

pub returns-in_err-next : goal.returns-in_err-next
returns-in_err-next c =
    rw c.from_residual-in_err-next.ensures record { result_value = end_half _ _ _ c.skip_white-a.ensures c.in_default.ensures _ c.in_ok-d.ensures c.in_err-next.ensures; end_within = tt }

pub returns : goal.returns
returns c = record { result_value = end_whole _ _ _ c.skip_white-a.ensures c.in_default.ensures _ c.in_ok-d.ensures _ c.in_ok-next.ensures; end_within = search rules }
