use mathlib.Core.Path.{refl}
use Rattle.reader.proofs.EntityLaws.{packed-whole, end_planned}
use borrow.Author.Rules.{rules}
use Rattle.reader.proofs.act.plan_end.Goals as goal

pub look_up-lookup-requires : goal.look_up-lookup-requires
look_up-lookup-requires c = record { taking = search rules; whole_key = search packed-whole }

pub returns : goal.returns
returns c = end_planned _ _ _ _ _ _ _ c.pack_names-end.ensures c.names_used-n.ensures c.requires.held_len.2 _ _ _ _ _ _ refl c.look_up-lookup.ensures.live_value c.look_up-lookup.ensures.looks_up
