use lib.ListN.{length}
use mathlib.Core.Path.{◌≡◌}
use Rattle.store.proofs.Indexing.StepLaws.{dead_changed, dead_full, dead_orphan, dead_made}
use borrow.Author.Rules.{rules}
use Rattle.store.proofs.replay.Row.step_place.Goals as goal
use Rattle.store.proofs.replay.Row.step_place.Goals.{then-n-ge-LIVE_MOST-via-then-n-ge-LIVE_MOST, then-n-ge-LIVE_MOST-via-else-n-ge-LIVE_MOST+then-not-parent_live}

pub returns-then-n-ge-LIVE_MOST : goal.returns-then-n-ge-LIVE_MOST
returns-then-n-ge-LIVE_MOST c =
    elim c.then-n-ge-LIVE_MOST.branch [
      | then-n-ge-LIVE_MOST-via-then-n-ge-LIVE_MOST w ↦ search (dead_full, c.in-Make.ensures)
      | then-n-ge-LIVE_MOST-via-else-n-ge-LIVE_MOST+then-not-parent_live w ↦ search (dead_orphan, c.in-Make.ensures)
    ]

pub returns-else-not-parent_live : goal.returns-else-not-parent_live
returns-else-not-parent_live c =
    let out = c.insert.new.index in
    let l : length out ≡ length c.args.index.now = search rules in
    search (dead_made, c.in-Make.ensures)

pub returns-in-Write : goal.returns-in-Write
returns-in-Write c = search dead_changed
