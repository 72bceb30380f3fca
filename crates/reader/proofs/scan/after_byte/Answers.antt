use Rattle.reader.proofs.PiecePlaces.{behind-cases}
use Rattle.reader.proofs.scan.after_byte.Goals as goal
use Rattle.reader.proofs.scan.after_byte.Goals.{else-at-s-via-then-at-s+else-s-at, else-at-s-via-else-at-s}

pub returns-then-s-at : goal.returns-then-s-at
returns-then-s-at c = search behind-cases

pub returns : goal.returns
returns c = elim c.else-at-s.branch [ else-at-s-via-then-at-s+else-s-at w ↦ search behind-cases | else-at-s-via-else-at-s w ↦ search behind-cases ]
