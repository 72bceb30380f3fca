use Rattle.names.specs.Date.{is_date, picture}
use Rattle.names.proofs.DateLaws.{pictured-length}
use Rattle.names.proofs.PickLaws.{ands}
use Rattle.names.proofs.date.is_date.Goals as goal

pub has_date-requires : goal.has_date-requires
has_date-requires c = pictured-length _ _ c.if-fits_picture.ensures

pub returns-then-fits_picture : goal.returns-then-fits_picture
unfolding is_date picture
returns-then-fits_picture c = search ands

pub returns-else-fits_picture : goal.returns-else-fits_picture
unfolding is_date picture
returns-else-fits_picture c = search ands
