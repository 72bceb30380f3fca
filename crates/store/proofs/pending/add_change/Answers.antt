use Rattle.store.proofs.Calls.AddLaws.{added-within, added-beyond, no_room}
use borrow.Author.Rules.{rules}
use Rattle.store.proofs.pending.add_change.Goals as goal

pub returns-then-has_room : goal.returns-then-has_room
returns-then-has_room c = record { result_after = search added-within; added_to = search rules }

pub returns-else-has_room : goal.returns-else-has_room
returns-else-has_room c = record { result_after = search added-beyond; added_to = search no_room }
