use Rattle.snapshot.proofs.NamePlaces.{walking}
use borrow.Author.Rules.{rules}
use Rattle.snapshot.proofs.writer.Row.name_place.Goals as goal

pub loop-i-init : goal.loop-i-init
loop-i-init c = search walking

pub packed_end-p-requires : goal.packed_end-p-requires
packed_end-p-requires c = (search walking, search rules)

pub loop-i-preserved : goal.loop-i-preserved
loop-i-preserved c = search walking
