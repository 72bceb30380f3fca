use Rattle.store.proofs.Indexing.IndexLaws.{index_fits, row-ordered}
use borrow.Author.Rules.{rules}
use Rattle.store.proofs.index.row_order.Goals as goal

pub row_key-at-requires : goal.row_key-at-requires
row_key-at-requires c = (search rules, search rules, search index_fits)

pub returns : goal.returns
returns c = search row-ordered
