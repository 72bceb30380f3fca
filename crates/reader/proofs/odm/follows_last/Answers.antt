use Rattle.std.proofs.Common.{ap, not, sym, ◌∙◌}
use Rattle.reader.proofs.OdmLaws.{follows-absent, follows-other, follows_earlier, follows_by_type}
use Rattle.reader.proofs.odm.follows_last.Goals as goal
use Rattle.reader.proofs.odm.follows_last.Goals.{then-is_last_oid, else-is_last_oid}

pub returns-then-prior-eq0 : goal.returns-then-prior-eq0
returns-then-prior-eq0 c = follows-absent c.args.s.now c.args.t _ c.requires.odm_read c.start_at-prior.result c.start_at-prior.ensures c.file_count.result c.file_count.ensures c.if-prior-eq0.true

pub returns-then-not_before_last : goal.returns-then-not_before_last
returns-then-not_before_last c = elim c.if-is_last_oid.branch [
  | then-is_last_oid w ↦ follows_by_type c.args.s.now c.args.t _ c.requires.odm_read c.start_at-prior.result c.start_at-prior.ensures c.if-prior-eq0.false c.end_at-prior_end.result c.end_at-prior_end.ensures c.is_last_oid.result c.is_last_oid.ensures (ap not w.if-is_last_oid.true) c.args.h c.requires.head_of w.not_before_last.result w.not_before_last.ensures (ap not (sym w.value-is ∙ c.if-not_before_last.true))
  | else-is_last_oid w ↦ cc
]

pub returns-else-not_before_last : goal.returns-else-not_before_last
returns-else-not_before_last c = elim c.if-is_last_oid.branch [
  | then-is_last_oid w ↦ c.if-not_before_last.false ∙ follows_earlier c.args.s.now c.args.t _ c.requires.odm_read c.start_at-prior.result c.start_at-prior.ensures c.if-prior-eq0.false c.end_at-prior_end.result c.end_at-prior_end.ensures c.is_last_oid.result c.is_last_oid.ensures (ap not w.if-is_last_oid.true) c.args.h c.requires.head_of w.not_before_last.result w.not_before_last.ensures (ap not (sym w.value-is ∙ c.if-not_before_last.false))
  | else-is_last_oid w ↦ c.if-not_before_last.false ∙ follows-other c.args.s.now c.args.t _ c.requires.odm_read c.start_at-prior.result c.start_at-prior.ensures c.if-prior-eq0.false c.end_at-prior_end.result c.end_at-prior_end.ensures c.is_last_oid.result c.is_last_oid.ensures (ap not w.if-is_last_oid.false)
]
