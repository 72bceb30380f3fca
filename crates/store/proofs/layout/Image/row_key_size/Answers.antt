use Rattle.store.proofs.Layouts.EntryLaws.{row_by_numbers}
use Rattle.store.proofs.layout.Image.row_key_size.Goals as goal

pub returns : goal.returns
returns c = search row_by_numbers
