use Rattle.reader.proofs.BodyLaws.{cut_loop}
use Rattle.reader.proofs.body.section_end.Goals as goal

pub returns-then-begins_at : goal.returns-then-begins_at
returns-then-begins_at c = search cut_loop
