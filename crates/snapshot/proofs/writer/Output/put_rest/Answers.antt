use Prim.Native.Nat.{◌≤◌}
use native.Mathlib.Omega.{arith}
use Rattle.snapshot.proofs.NamePlaces.{depth_some, depth_most, repeat_at, value-at}
use Rattle.snapshot.proofs.PieceTexts.{rests}
use borrow.Author.Rules.{rules}
use Rattle.snapshot.proofs.writer.Output.put_rest.Goals as goal

pub returns-in-1 : goal.returns-in-1
returns-in-1 c = (search rests, omega arith)

pub returns-in-5 : goal.returns-in-5
returns-in-5 c = (search (rests, value-at), omega arith)

pub put_level-requires : goal.put_level-requires
put_level-requires c =
    let low : 1 ≤ c.depth-depth.result = search depth_some in
    let high : c.depth-depth.result ≤ 5 = search depth_most in
    record { at_bound = (search rules, omega arith, omega arith); repeat_at = search repeat_at }

pub returns-in_default : goal.returns-in_default
returns-in_default c = (search rests, omega arith)
