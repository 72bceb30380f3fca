use Rattle.reader.proofs.ContentLaws.{closing-broken, closing_child, closing-other, closing_own}
use Rattle.reader.proofs.body.closing_by_step.Goals as goal

pub returns-then-c-eq3 : goal.returns-then-c-eq3
returns-then-c-eq3 c = search closing-broken

pub returns-then-c-lt2 : goal.returns-then-c-lt2
returns-then-c-lt2 c = search closing_child

pub returns-then-not-same_parts : goal.returns-then-not-same_parts
returns-then-not-same_parts c = search closing-other

pub returns : goal.returns
returns c = search closing_own
