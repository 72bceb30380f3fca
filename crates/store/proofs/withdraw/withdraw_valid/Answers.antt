use Rattle.std.proofs.lemmas.Result.{err_from_is_err_and}
use Rattle.store.proofs.Calls.StandingLaws.{last_stands}
use Rattle.store.proofs.Calls.WithdrawLaws.{withdrawing}
use Rattle.store.proofs.withdraw.withdraw_valid.Goals as goal

pub returns-in_err-f : goal.returns-in_err-f
returns-in_err-f c =
    let p = err_from_is_err_and c.from_residual.result c.from_residual.ensures.1 in
    let d = rw c.in_err-f.ensures.ok_part at c.last_file.ensures in
    let v = rw c.in_err-f.ensures.ok_part at c.in_err-f.ensures.value in
    rw (p.1, p.2) (search (withdrawing, d, v))

pub oid_is-requires : goal.oid_is-requires
oid_is-requires c = let d = rw c.in_ok-f.ensures.ok_part at c.last_file.ensures in search (last_stands, d.0, d.1)

pub strike_file-requires : goal.strike_file-requires
strike_file-requires c = let d = rw c.in_ok-f.ensures.ok_part at c.last_file.ensures in search (withdrawing, d.0, d.1)

pub returns-then-oid_is : goal.returns-then-oid_is
returns-then-oid_is c = let d = rw c.in_ok-f.ensures.ok_part at c.last_file.ensures in search (withdrawing, d.0, d.1, c.if-oid_is.ensures)

pub returns-else-oid_is : goal.returns-else-oid_is
returns-else-oid_is c = let d = rw c.in_ok-f.ensures.ok_part at c.last_file.ensures in search (withdrawing, d.0, d.1, c.if-oid_is.ensures)
