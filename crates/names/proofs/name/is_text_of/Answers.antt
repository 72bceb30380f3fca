use Rattle.std.proofs.Common.{rules, tests, arith}
use Rattle.std.proofs.lemmas.Bool.Decides.{nat_tests}
use Rattle.std.proofs.lemmas.Iterator.{YieldsList-from_slice}
use Rattle.std.proofs.lemmas.Iterator.Search.{all_from_yields_List}
use Rattle.names.specs.Class.{is_value_byte}
use Rattle.names.specs.Name.{is_text_of}
use Rattle.names.specs.Pick.{◌and◌}
use Rattle.names.proofs.All.{all_told}
use Rattle.names.proofs.PickLaws.{ands}
use Rattle.names.proofs.name.is_text_of.Goals as goal

pub returns-then-s-most : goal.returns-then-s-most
unfolding is_text_of
returns-then-s-most c =
    let e = all_told is_value_byte _ _ (all_from_yields_List is_value_byte _ _ _ c.all.ensures.ran (YieldsList-from_slice c.args.s.now cc) (λ x b q k. search (rules, tests))) in
    search ands

pub returns-else-s-most : goal.returns-else-s-most
unfolding is_text_of ◌and◌
returns-else-s-most c = grind (arith, nat_tests)
