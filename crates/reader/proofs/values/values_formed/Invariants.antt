use mathlib.Core.Path.{◌≡◌}
use lib.ListN.{drop}
use Rattle.reader.specs.code.Values.{forms_of, formed_from}
use Rattle.reader.proofs.values.values_formed.Given as goal

abbrev pub invariant-loop-j : goal.invariant-loop-j
invariant-loop-j l = formed_from (forms_of l.t.element) 0 l.s l.t.found ≡ formed_from (drop l.j (forms_of l.t.element)) l.j l.s l.t.found
