use Rattle.std.proofs.Common.{inl, inr}
use Rattle.reader.proofs.OwnLaws.{own_closing, own_subject, own_item, own_alone, own_both}
use Rattle.reader.proofs.entity.own_names.Goals as goal

pub returns-then-t-eq2 : goal.returns-then-t-eq2
returns-then-t-eq2 c = search own_closing

pub returns-then-c-eq0 : goal.returns-then-c-eq0
returns-then-c-eq0 c = elim c.if-c-eq0.either [ inl x ↦ search own_subject | inr y ↦ elim y [ inl x ↦ search own_item | inr x ↦ search own_alone ] ]

pub returns-else-c-eq0 : goal.returns-else-c-eq0
returns-else-c-eq0 c = search own_both
