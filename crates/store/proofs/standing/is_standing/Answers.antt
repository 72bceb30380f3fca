use native.Mathlib.Omega.{arith}
use Rattle.store.proofs.Calls.StandingLaws.{standing-all, file-stands, standing-loop}
use borrow.Author.Rules.{rules}
use Rattle.store.proofs.standing.is_standing.Goals as goal

pub loop-f-init : goal.loop-f-init
loop-f-init c = (search rules, search standing-all)

pub oid_is-requires : goal.oid_is-requires
oid_is-requires c = file-stands _ _ c.requires _ (omega (arith, c.loop-f.invariant.0))

pub returns-then-oid_is : goal.returns-then-oid_is
returns-then-oid_is c = search standing-loop

pub loop-f-preserved : goal.loop-f-preserved
loop-f-preserved c = (search rules, search standing-loop)

pub returns : goal.returns
returns c = search standing-loop
