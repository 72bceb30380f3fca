use Rattle.std.proofs.Common.{rules}
use Rattle.store.proofs.Calls.StandingLaws.{last_few, last_date_told}
use Rattle.store.proofs.standing.not_before_last.Goals as goal

pub is_none_or-requires : goal.is_none_or-requires
is_none_or-requires c x e = let d = rw e at c.last_file.ensures in search (last_few, d.0, d.1)

pub returns : goal.returns
returns c = last_date_told _ _ c.requires _ _ _ c.last_file.ensures c.is_none_or.ensures (λ f p. search rules)
