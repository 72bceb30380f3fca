use Rattle.reader.proofs.BodyLaws.{section_within, body-cases}
use Rattle.reader.proofs.body.body_at.Goals as goal

pub section_at-requires : goal.section_at-requires
section_at-requires c = search section_within

pub returns-then-begins_at : goal.returns-then-begins_at
returns-then-begins_at c = search body-cases

pub returns : goal.returns
returns c = search body-cases
