use Rattle.names.proofs.DateLaws.{time_told}
use Rattle.names.proofs.PickLaws.{ands}
use Rattle.names.proofs.date.has_date.Goals as goal

pub returns-then-has_day : goal.returns-then-has_day
returns-then-has_day c =
    let e = time_told c.args.s.now c.two_digits.ensures.0 c.two_digits-then-has_day.ensures.0 c.two_digits-then-has_day-2.ensures.0 c.is_time.ensures in
    search ands

pub returns-else-has_day : goal.returns-else-has_day
returns-else-has_day c = search ands
