use Rattle.std.proofs.lemmas.Result.{err_from_is_err_and}
use Rattle.reader.proofs.OdmLaws.{odm_misplaced, odm_read}
use Rattle.reader.proofs.ElementPlaced.{row_odm}
use borrow.Author.Rules.{rules}
use Rattle.reader.proofs.odm.open_odm.Goals as goal

pub opening_fault-requires : goal.opening_fault-requires
opening_fault-requires c = record { classes = search rules; level_bound = (search rules, search row_odm); attributed = search rules }

pub returns-in_err-opening_fault : goal.returns-in_err-opening_fault
returns-in_err-opening_fault c = let p = err_from_is_err_and c.from_residual.result c.from_residual.ensures.1 in rw (p.1, p.2) (odm_misplaced _ _ _ _ _ c.in_err-opening_fault.ensures)

pub judge_series-requires : goal.judge_series-requires
judge_series-requires c = record { valid = search rules; odm_read = odm_read _ _ c.requires.attributed.0 c.requires.attributed.1 c.in_ok-opening_fault.ensures }
