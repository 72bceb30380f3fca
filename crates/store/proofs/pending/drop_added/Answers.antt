use Rattle.store.proofs.Calls.PendingLaws.{from_changes, from_bytes, dropped}
use borrow.Author.Rules.{rules}
use Rattle.store.proofs.pending.drop_added.Goals as goal

pub clear_changes-requires : goal.clear_changes-requires
clear_changes-requires c = record { numbers_len = search rules; c_le_d = (search from_changes, search rules, search from_bytes, search rules) }

pub returns : goal.returns
returns c = search dropped
