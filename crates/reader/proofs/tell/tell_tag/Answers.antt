use Rattle.std.proofs.lemmas.Result.{err_from_is_err_and}
use Rattle.reader.proofs.TellLaws.{told-misplaced}
use Rattle.reader.proofs.tell.tell_tag.Goals as goal

pub returns-in_err-tag_fault : goal.returns-in_err-tag_fault
returns-in_err-tag_fault c = let p = err_from_is_err_and c.from_residual.result c.from_residual.ensures.1 in rw (p.1, p.2) (told-misplaced _ _ _ _ c.requires.level_bound.0 c.requires.readable _ c.in_err-tag_fault.ensures.judged c.in_err-tag_fault.ensures.passed)
