use Rattle.std.proofs.Common.{◌≡◌, length, arith}
use Rattle.std.proofs.lemmas.Bool.Decides.{nat_tests}
use Rattle.snapshot.proofs.PieceTexts.{values}
use Rattle.snapshot.proofs.writer.Output.put_value.Goals as goal

pub returns-then-is_empty : goal.returns-then-is_empty
returns-then-is_empty c = let e : length c.args.v.now ≡ 0 = grind (arith, nat_tests) in (search values, omega arith)

pub returns : goal.returns
returns c = let e : length c.args.v.now ≡ 0 → ⊥ = grind (arith, nat_tests) in (search values, omega arith)
