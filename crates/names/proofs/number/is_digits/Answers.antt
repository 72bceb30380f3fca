use Rattle.std.proofs.Common.{rules, tests, arith, ◌≤◌, length}
use Rattle.std.proofs.lemmas.Bool.Decides.{nat_tests}
use Rattle.std.proofs.lemmas.Iterator.{YieldsList-from_slice}
use Rattle.std.proofs.lemmas.Iterator.Search.{all_from_yields_List}
use Rattle.names.specs.Class.{is_digit}
use Rattle.names.specs.Number.{is_digits}
use Rattle.names.specs.Pick.{◌and◌}
use Rattle.names.proofs.All.{all_told}
use Rattle.names.proofs.PickLaws.{ands}
use Rattle.names.proofs.number.is_digits.Goals as goal

pub returns-then-not-is_empty : goal.returns-then-not-is_empty
unfolding is_digits
returns-then-not-is_empty c =
    let e = all_told is_digit _ _ (all_from_yields_List is_digit _ _ _ c.all.ensures.ran (YieldsList-from_slice c.args.s.now cc) (λ x b q k. search (rules, tests))) in
    let l : 1 ≤ length c.args.s.now = grind arith in
    search ands

pub returns-else-not-is_empty : goal.returns-else-not-is_empty
unfolding is_digits ◌and◌
returns-else-not-is_empty c = grind (arith, nat_tests)
