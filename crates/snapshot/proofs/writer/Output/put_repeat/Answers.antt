use Rattle.std.proofs.Common.{◌≡◌, length, arith}
use Rattle.std.proofs.lemmas.Bool.Decides.{nat_tests}
use Rattle.snapshot.proofs.PieceTexts.{repeats}
use Rattle.snapshot.proofs.writer.Output.put_repeat.Goals as goal

pub returns-then-is_empty : goal.returns-then-is_empty
returns-then-is_empty c = let e : length c.args.n.now ≡ 0 = grind (arith, nat_tests) in (search repeats, omega arith)

pub returns : goal.returns
returns c = let e : length c.args.n.now ≡ 0 → ⊥ = grind (arith, nat_tests) in (search repeats, omega arith)
