use Rattle.reader.proofs.Pieces.{name-cases}
use Rattle.reader.proofs.ByteRuns.{name-behind}
use Rattle.reader.proofs.tag.name_end.Goals as goal
use Rattle.reader.proofs.tag.name_end.Goals.{then-s-at-via-then-s-at, then-s-at-via-else-s-at+then-not-is_letter}

pub returns-then-s-at : goal.returns-then-s-at
returns-then-s-at c =
    elim c.then-s-at.branch [ then-s-at-via-then-s-at w ↦ search name-cases | then-s-at-via-else-s-at+then-not-is_letter w ↦ search name-cases ]

pub returns : goal.returns
returns c = search (name-cases, name-behind)
