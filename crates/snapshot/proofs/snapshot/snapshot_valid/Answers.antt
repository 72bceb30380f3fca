use Rattle.snapshot.proofs.SnapshotTexts.{oid-short, date-short, snapshot-answers}
use borrow.Author.Rules.{rules}
use Rattle.snapshot.proofs.snapshot.snapshot_valid.Goals as goal

pub returns-then-not-is_header : goal.returns-then-not-is_header
returns-then-not-is_header c = search snapshot-answers

pub snapshot_size-size-requires : goal.snapshot_size-size-requires
snapshot_size-size-requires c = record { valid = search rules; listed_rows = search rules; file_oid_len_bound = (search oid-short, search date-short) }

pub returns-then-output-size : goal.returns-then-output-size
returns-then-output-size c = search snapshot-answers

pub emit_snapshot-count-requires : goal.emit_snapshot-count-requires
emit_snapshot-count-requires c = record { valid = search rules; listed_rows = search rules; oid_len_bound = (search oid-short, search date-short) }

pub returns : goal.returns
returns c = search snapshot-answers
