use Rattle.reader.proofs.FormLaws.{alone_fits}
use Rattle.reader.proofs.values.value_fits.Goals as goal

pub returns-then-all_alone : goal.returns-then-all_alone
returns-then-all_alone c = search alone_fits
