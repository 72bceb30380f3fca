use Rattle.store.proofs.Layouts.FileReads.{slot-fits}
use Rattle.store.proofs.layout.Image.oid_fits.Goals as goal

pub returns : goal.returns
returns c = search slot-fits
