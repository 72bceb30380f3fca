-- Tests one after another: a group of three before a fourth.
use mathlib.Core.Path.{◌≡◌, ◌∙◌, ap}
use mathlib.Core.Bool.{Bool}
use Rattle.names.specs.Pick.{◌and◌}
use Rattle.names.proofs.Tests.{and_assoc}

pub and_three : (a b c d : Bool) → ((a and b and c) and d) ≡ (a and b and c and d)
and_three a b c d = and_assoc a (b and c) d ∙ ap (λ (x : Bool). a and x) (and_assoc b c d)
