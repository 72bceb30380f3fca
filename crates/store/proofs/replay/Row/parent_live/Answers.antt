use borrow.Author.Tests.{lt-leb}
use Rattle.store.proofs.Indexing.Parents.{subject-rooted, orphan_first, rooted-told}
use Rattle.store.proofs.replay.Row.parent_live.Goals as goal

pub returns-then-d-le1 : goal.returns-then-d-le1
returns-then-d-le1 c = search subject-rooted

pub returns-then-p-ge1 : goal.returns-then-p-ge1
returns-then-p-ge1 c = search rooted-told

pub returns-else-p-ge1 : goal.returns-else-p-ge1
returns-else-p-ge1 c = rw (lt-leb _ _ c.if-p-ge1.false) (search orphan_first)
