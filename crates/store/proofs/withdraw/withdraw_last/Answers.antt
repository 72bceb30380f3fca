use Rattle.std.proofs.lemmas.Result.{err_from_is_err_and}
use Rattle.store.proofs.Calls.OpenLaws.{right_lengths_lem}
use Rattle.store.proofs.Calls.WithdrawLaws.{withdraw_unsized, withdraw_invalid, withdraw-read}
use Rattle.store.proofs.withdraw.withdraw_last.Goals as goal

pub returns-in_err-buffers_sized : goal.returns-in_err-buffers_sized
returns-in_err-buffers_sized c =
    let p = err_from_is_err_and c.from_residual.result c.from_residual.ensures.1 in
    rw (p.1, p.2) (search (withdraw_unsized, c.in_err-buffers_sized.ensures.says))

pub returns-then-is_valid : goal.returns-then-is_valid
returns-then-is_valid c = search (withdraw-read, c.if-is_valid.ensures)

pub returns-else-is_valid : goal.returns-else-is_valid
returns-else-is_valid c = search (withdraw_invalid, right_lengths_lem, c.if-is_valid.ensures, c.in_ok-buffers_sized.ensures.sized)
