use Rattle.store.proofs.Indexing.ReplayLaws.{row-is_change}
use borrow.Author.Rules.{rules}
use Rattle.store.proofs.replay.Row.of.Goals as goal

pub invariant_of-result : goal.invariant_of-result
invariant_of-result c = record { sized = search rules; formed = search row-is_change; placed = search rules; counted = search rules }
