use Rattle.std.proofs.Common.{arith}
use Rattle.names.specs.Date.{is_day_text, picture}
use Rattle.names.proofs.DateLaws.{pictured-length}
use Rattle.names.proofs.PickLaws.{ands}
use Rattle.names.proofs.date.is_day_text.Goals as goal

pub has_day-requires : goal.has_day-requires
has_day-requires c = omega (arith, pictured-length _ _ c.if-fits_picture.ensures)

pub returns-then-fits_picture : goal.returns-then-fits_picture
unfolding is_day_text picture
returns-then-fits_picture c = search ands

pub returns-else-fits_picture : goal.returns-else-fits_picture
unfolding is_day_text picture
returns-else-fits_picture c = search ands
