use Rattle.std.proofs.lemmas.Result.{err_from_is_err_and}
use Rattle.snapshot.proofs.SnapshotTexts.{call_unsized, call_refused, call-read}
use Rattle.snapshot.proofs.snapshot.snapshot_count.Goals as goal

pub returns-in_err-buffers_sized : goal.returns-in_err-buffers_sized
returns-in_err-buffers_sized c =
    let p = err_from_is_err_and c.from_residual.result c.from_residual.ensures.1 in
    rw (p.1, p.2) (search (call_unsized, c.in_err-buffers_sized.ensures.says))

pub returns-in_err-live : goal.returns-in_err-live
returns-in_err-live c =
    let p = err_from_is_err_and c.from_residual-in_err-live.result c.from_residual-in_err-live.ensures.1 in
    rw (p.1, p.2) (search (call_refused, c.in_err-live.ensures.result_value))

pub returns : goal.returns
returns c = search (call-read, c.in_ok-live.ensures.judged)
