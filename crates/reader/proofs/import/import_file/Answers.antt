use mathlib.Core.Path.{sym}
use Rattle.std.proofs.lemmas.Result.{err_from_is_err_and}
use Rattle.store.proofs.Calls.OpenLaws.{opened_unsized}
use Rattle.reader.proofs.ImportCall.{import_refused}
use Rattle.reader.proofs.import.import_file.Goals as goal

pub returns-in_err-buffers_sized : goal.returns-in_err-buffers_sized
returns-in_err-buffers_sized c = let p = err_from_is_err_and c.from_residual.result c.from_residual.ensures.1 in rw (p.1, p.2) (import_refused _ _ _ (sym (opened_unsized _ _ c.in_err-buffers_sized.ensures.says)))

pub returns-in_err-pending : goal.returns-in_err-pending
returns-in_err-pending c = let p = err_from_is_err_and c.from_residual-in_err-pending.result c.from_residual-in_err-pending.ensures.1 in rw (p.1, p.2) (import_refused _ _ _ c.in_err-pending.ensures.result_value)
