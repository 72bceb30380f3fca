use Rattle.snapshot.proofs.NamePlaces.{depth_some, parent-few, own_at}
use Rattle.snapshot.proofs.writer.Row.own_place.Goals as goal

pub overflow_sub-d : goal.overflow_sub-d
overflow_sub-d c = search depth_some

pub name_place-requires : goal.name_place-requires
name_place-requires c = search parent-few

pub returns : goal.returns
returns c = search own_at
