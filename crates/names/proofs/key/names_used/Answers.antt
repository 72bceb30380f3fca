use Rattle.std.proofs.Common.{rules}
use Rattle.names.proofs.KeyDepth.{used}
use Rattle.names.proofs.key.names_used.Goals as goal

pub returns-in-1-to-5 : goal.returns-in-1-to-5
returns-in-1-to-5 c = (search (rules, used), search rules)

pub returns-in_default : goal.returns-in_default
returns-in_default c = (search (rules, used), search rules)

pub returns-in_default-2 : goal.returns-in_default-2
returns-in_default-2 c = (search (rules, used), search rules)
