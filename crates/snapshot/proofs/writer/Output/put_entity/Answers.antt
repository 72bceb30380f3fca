use Rattle.snapshot.proofs.NamePlaces.{depth_some}
use Rattle.snapshot.proofs.PieceTexts.{entity_put}
use borrow.Author.Rules.{rules}
use Rattle.snapshot.proofs.writer.Output.put_entity.Goals as goal

pub overflow_sub-depth : goal.overflow_sub-depth
overflow_sub-depth c = search depth_some

pub returns : goal.returns
returns c = (search entity_put, search rules)
