use Rattle.names.proofs.KeyWalk.{split-more, split_none}
use Rattle.names.proofs.key.split_name.Goals as goal

pub returns-in-Some : goal.returns-in-Some
returns-in-Some c = let v = c.split_at.ensures in split-more _ _ _ _ _ _ c.in-Some.ensures.cases.0 c.min.ensures v.front v.back

pub returns-in-None : goal.returns-in-None
returns-in-None c = split_none _ c.in-None.ensures.cases
