use Rattle.std.proofs.Common.{arith}
use Rattle.std.proofs.lemmas.Bool.Decides.{nat_tests}
use Rattle.names.specs.Pick.{◌and◌}
use mathlib.Core.Path.{sym, ◌∙◌}
use mathlib.Core.Bool.{false≢true}
use Rattle.store.specs.code.Layout.{laid_out}
use Rattle.store.proofs.Layouts.LayoutTests.{few}
use Rattle.store.proofs.layout.laid_out.Goals.{then-names_fit, else-names_fit, then-files_fit, else-files_fit}
use Rattle.store.proofs.layout.laid_out.Goals as goal

pub files_fit-requires : goal.files_fit-requires
files_fit-requires c = grind (arith, few)

pub rows_fit-requires-clause-few : goal.rows_fit-requires-clause-few
rows_fit-requires-clause-few c = grind (arith, few)

pub unused_zero-requires : goal.unused_zero-requires
unused_zero-requires c = grind (arith, few)

pub returns-then-rows_fit : goal.returns-then-rows_fit
unfolding laid_out ◌and◌
returns-then-rows_fit c =
    record {
      says = grind (arith, nat_tests);
      sized = λ e. elim c.if-files_fit.branch [
        | then-files_fit w ↦ rw w.sizes-is (w.rows_fit.ensures.sized (sym w.value-is ∙ c.if-rows_fit.true))
        | else-files_fit w ↦ absurd (false≢true (sym w.if-files_fit.false ∙ sym w.value-is ∙ c.if-rows_fit.true))
      ];
    }

pub returns-else-rows_fit : goal.returns-else-rows_fit
unfolding laid_out ◌and◌
returns-else-rows_fit c =
    record {
      says = elim c.if-files_fit.branch [
        | then-files_fit w ↦ grind (arith, nat_tests)
        | else-files_fit w ↦ elim c.if-names_fit.branch [ then-names_fit v ↦ grind (arith, nat_tests) | else-names_fit v ↦ grind (arith, nat_tests) ]
      ];
      sized = λ e. absurd (false≢true (sym c.if-rows_fit.false ∙ e));
    }
