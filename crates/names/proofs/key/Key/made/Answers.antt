use mathlib.Core.Path.{refl}
use Rattle.names.specs.code.HeldKey.{eight, held_from, held_name}
use Rattle.names.proofs.key.Key.made.Goals as goal

pub returns : goal.returns
unfolding eight held_from held_name
returns c = (refl, refl)
