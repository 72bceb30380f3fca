use Rattle.reader.proofs.ActLaws.{study-other, study-same}
use borrow.Author.Rules.{rules}
use Rattle.reader.proofs.act.plan_clinical.Goals as goal

pub returns-then-is_study : goal.returns-then-is_study
returns-then-is_study c = record { changes = search study-same; kind = search rules }

pub returns-else-is_study : goal.returns-else-is_study
returns-else-is_study c = record { changes = search study-other; kind = search rules }
