use Rattle.store.proofs.Indexing.IndexLaws.{at-within, place-within}
use Rattle.store.proofs.Tables.Ranks.{found_stands, found_belongs}
use borrow.Author.Rules.{rules}
use Rattle.store.proofs.replay.Row.step.Goals as goal

pub step_at-requires : goal.step_at-requires
step_at-requires c = record { indexed = (search rules, search at-within); stands = search found_stands }

pub step_place-requires : goal.step_place-requires
step_place-requires c = record { indexed = (search rules, search place-within); belongs = search found_belongs }
