use mathlib.Core.Path.{◌≡◌}
use Rattle.store.specs.code.Entry.{Sized}
use Rattle.store.specs.code.Layout.{rows_fit}
use Rattle.store.proofs.layout.Image.rows_fit.Given as goal

abbrev pub invariant-loop-i : goal.invariant-loop-i
invariant-loop-i l =
    (rows_fit l.self.numbers.now l.self.bytes.now l.n ≡ rows_fit l.self.numbers.now l.self.bytes.now l.i) × Sized l.self.numbers.now l.self.bytes.now l.i l.n l.sizes
