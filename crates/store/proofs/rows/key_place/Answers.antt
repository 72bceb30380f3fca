use borrow.Author.Rules.{rules}
use Rattle.store.proofs.Images.RowReads.{key-places}
use Rattle.store.proofs.rows.key_place.Goals as goal

pub returns-then-start-gt-BYTES_MOST : goal.returns-then-start-gt-BYTES_MOST
returns-then-start-gt-BYTES_MOST c = (search key-places, search rules)

pub returns-else-start-gt-BYTES_MOST : goal.returns-else-start-gt-BYTES_MOST
returns-else-start-gt-BYTES_MOST c = (search key-places, search rules)
