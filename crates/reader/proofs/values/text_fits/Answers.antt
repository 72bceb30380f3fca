use Rattle.reader.proofs.FormLaws.{fits-cases, long_unfit}
use Rattle.reader.proofs.values.text_fits.Goals as goal

pub returns-then-most-v : goal.returns-then-most-v
returns-then-most-v c = search long_unfit

pub returns-in-Ok : goal.returns-in-Ok
returns-in-Ok c = search fits-cases

pub returns-in-Err : goal.returns-in-Err
returns-in-Err c = search fits-cases
