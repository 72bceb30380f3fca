use Rattle.snapshot.proofs.PieceTexts.{closing}
use borrow.Author.Rules.{rules}
use Rattle.snapshot.proofs.writer.Output.put_closing.Goals as goal

pub loop-k-preserved : goal.loop-k-preserved
loop-k-preserved c = (search rules, search closing)

pub returns : goal.returns
returns c = (search closing, search rules)
