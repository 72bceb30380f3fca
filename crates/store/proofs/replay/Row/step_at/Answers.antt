use lib.ListN.{length}
use mathlib.Core.Path.{◌≡◌}
use Rattle.store.proofs.Indexing.StepLaws.{live_made, live_written, live_ended}
use borrow.Author.Rules.{rules}
use Rattle.store.proofs.replay.Row.step_at.Goals as goal

pub returns-in-Make : goal.returns-in-Make
returns-in-Make c = search (live_made, c.in-Make.ensures)

pub returns-in-Write : goal.returns-in-Write
returns-in-Write c = search (live_written, c.in-Write.ensures)

pub returns-in-End : goal.returns-in-End
returns-in-End c =
    let out = c.remove.new.index in
    let l : length out ≡ length c.args.index.now = search rules in
    search (live_ended, c.in-End.ensures)
