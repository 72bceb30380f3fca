use Rattle.store.specs.code.Layout.{file_number}
use borrow.Author.Rules.{rules}
use Rattle.store.proofs.layout.file_number.Goals as goal

pub returns : goal.returns
unfolding file_number
returns c = search rules
