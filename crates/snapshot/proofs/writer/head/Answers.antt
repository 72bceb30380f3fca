use native.Mathlib.Omega.{arith}
use Rattle.snapshot.proofs.PieceTexts.{heads, head_item}
use borrow.Author.Rules.{rules}
use Rattle.snapshot.proofs.writer.head.Goals as goal

pub returns-in-1 : goal.returns-in-1
returns-in-1 c = (search heads, search rules)

pub returns-in-2 : goal.returns-in-2
returns-in-2 c = (search heads, search rules)

pub returns-in-3 : goal.returns-in-3
returns-in-3 c = (search heads, search rules)

pub returns-in-4 : goal.returns-in-4
returns-in-4 c = (search heads, search rules)

pub returns-in_default : goal.returns-in_default
returns-in_default c = (head_item c.args.depth (omega arith), search rules)
