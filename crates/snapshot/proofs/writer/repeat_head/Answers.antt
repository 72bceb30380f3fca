use native.Mathlib.Omega.{arith}
use Rattle.snapshot.proofs.PieceTexts.{repeat-heads, repeat_group}
use borrow.Author.Rules.{rules}
use Rattle.snapshot.proofs.writer.repeat_head.Goals as goal

pub returns-in-2 : goal.returns-in-2
returns-in-2 c = (search repeat-heads, search rules)

pub returns-in-3 : goal.returns-in-3
returns-in-3 c = (search repeat-heads, search rules)

pub returns-in_default : goal.returns-in_default
returns-in_default c = (repeat_group c.args.depth (omega arith), search rules)
