use Rattle.std.proofs.Common.{rules}
use Rattle.store.proofs.Calls.StandingLaws.{last_stands, last_oid_told}
use Rattle.store.proofs.standing.is_last_oid.Goals as goal

pub is_some_and-requires : goal.is_some_and-requires
is_some_and-requires c x e = let d = rw e at c.last_file.ensures in search (last_stands, d.0, d.1)

pub returns : goal.returns
returns c = last_oid_told _ _ c.requires _ _ _ c.last_file.ensures c.is_some_and.ensures (λ f p. search rules)
