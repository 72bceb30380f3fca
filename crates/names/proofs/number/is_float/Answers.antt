use Rattle.std.proofs.Common.{rules, tests, not}
use Rattle.std.proofs.lemmas.Iterator.{YieldsList-from_slice}
use Rattle.std.proofs.lemmas.Iterator.Search.{position_from_yields_List}
use Rattle.names.specs.Class.{is_digit}
use Rattle.names.proofs.NumberLaws.{float_none, float_rest}
use Rattle.names.proofs.number.is_float.Goals as goal

pub returns-then-digits-gt0 : goal.returns-then-digits-gt0
returns-then-digits-gt0 c =
    let e = position_from_yields_List (λ b. not (is_digit b)) _ _ _ c.position.ensures.ran (YieldsList-from_slice c.args.s.now cc) (λ x b q k. search (rules, tests)) in
    float_rest c.args.s.now _ (rw e at c.unwrap_or-digits.ensures) _ c.if-digits-gt0.true c.is_fraction.ensures

pub returns-else-digits-gt0 : goal.returns-else-digits-gt0
returns-else-digits-gt0 c =
    let e = position_from_yields_List (λ b. not (is_digit b)) _ _ _ c.position.ensures.ran (YieldsList-from_slice c.args.s.now cc) (λ x b q k. search (rules, tests)) in
    float_none c.args.s.now _ (rw e at c.unwrap_or-digits.ensures) c.if-digits-gt0.false
