use Rattle.std.proofs.Common.{ap, not, sym, ◌∙◌}
use Rattle.reader.proofs.OdmLaws.{series_standing, series_breaks, series_dates}
use Rattle.reader.proofs.odm.in_series.Goals as goal
use Rattle.reader.proofs.odm.in_series.Goals.{then-not-is_standing, else-not-is_standing}

pub returns-then-follows_last : goal.returns-then-follows_last
returns-then-follows_last c = elim c.if-not-is_standing.branch [
  | then-not-is_standing w ↦ series_dates c.args.s.now c.args.t _ c.args.h c.requires.head_of c.is_standing.result c.is_standing.ensures w.if-not-is_standing.true w.follows_last.result w.follows_last.ensures (ap not (sym w.value-is ∙ c.if-follows_last.true)) c.not_after_creation.result c.not_after_creation.ensures
  | else-not-is_standing w ↦ (let z = ap not w.if-not-is_standing.false in cc)
]

pub returns-else-follows_last : goal.returns-else-follows_last
returns-else-follows_last c = elim c.if-not-is_standing.branch [
  | then-not-is_standing w ↦ c.if-follows_last.false ∙ series_breaks c.args.s.now c.args.t _ c.args.h c.requires.head_of c.is_standing.result c.is_standing.ensures w.if-not-is_standing.true w.follows_last.result w.follows_last.ensures (ap not (sym w.value-is ∙ c.if-follows_last.false))
  | else-not-is_standing w ↦ c.if-follows_last.false ∙ series_standing c.args.s.now c.args.t _ c.args.h c.requires.head_of c.is_standing.result c.is_standing.ensures w.if-not-is_standing.false
]
