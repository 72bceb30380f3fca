use native.Mathlib.Omega.{arith}
use Rattle.snapshot.proofs.PieceTexts.{closes-by-depth, close_group}
use borrow.Author.Rules.{rules}
use Rattle.snapshot.proofs.writer.close.Goals as goal

pub returns-in-1 : goal.returns-in-1
returns-in-1 c = (search closes-by-depth, search rules)

pub returns-in-2 : goal.returns-in-2
returns-in-2 c = (search closes-by-depth, search rules)

pub returns-in-3 : goal.returns-in-3
returns-in-3 c = (search closes-by-depth, search rules)

pub returns-in_default : goal.returns-in_default
returns-in_default c = (close_group c.args.depth (omega arith), search rules)
