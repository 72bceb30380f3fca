use Rattle.store.proofs.Calls.RoomLaws.{room-changes, room-bytes}
use Rattle.store.proofs.Calls.AddLaws.{pushed_row, grown}
use borrow.Author.Rules.{rules}
use Rattle.store.proofs.pending.push_change.Goals as goal

pub append_change-requires : goal.append_change-requires
append_change-requires c = record { numbers_len = search rules; c_lt_changes_most = (search room-changes, search room-bytes) }

pub index_change-state-requires : goal.index_change-state-requires
index_change-state-requires c = search pushed_row

pub returns : goal.returns
returns c = search grown
