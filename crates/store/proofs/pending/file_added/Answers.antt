use Rattle.store.proofs.Calls.PendingLaws.{files-room, oid-short, date-long, filed}
use borrow.Author.Rules.{rules}
use Rattle.store.proofs.pending.file_added.Goals as goal

pub close_file-requires : goal.close_file-requires
close_file-requires c = record { numbers_len = search rules; f_lt_files_most = (search files-room, search oid-short, search date-long, search rules, search rules) }

pub returns : goal.returns
returns c = search filed
