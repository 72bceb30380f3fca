use Rattle.store.proofs.Indexing.IndexLaws.{up_to-all, order_past, order_here, order-before, search_ended}
use borrow.Author.Rules.{rules}
use Rattle.store.proofs.index.find.Goals as goal

pub loop-lo-init : goal.loop-lo-init
loop-lo-init c = (search rules, search up_to-all, search rules)

pub loop-lo-preserved-in-Less : goal.loop-lo-preserved-in-Less
loop-lo-preserved-in-Less c = (search order_past, search rules, search rules)

pub returns-in-Equal : goal.returns-in-Equal
returns-in-Equal c = search order_here

pub loop-lo-preserved : goal.loop-lo-preserved
loop-lo-preserved c = (search rules, search order-before, search rules)

pub returns : goal.returns
returns c = search search_ended
