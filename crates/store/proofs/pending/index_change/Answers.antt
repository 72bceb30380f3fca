use Rattle.store.proofs.Indexing.EnterLaws.{place-few, place-fits, made_room, entered_made}
use Rattle.store.proofs.pending.index_change.Goals as goal

pub insert-requires : goal.insert-requires
insert-requires c = (search place-few, search made_room)

pub overflow_add-result-in-Err : goal.overflow_add-result-in-Err
overflow_add-result-in-Err c = search place-fits

pub returns-in-Err : goal.returns-in-Err
returns-in-Err c = search entered_made
