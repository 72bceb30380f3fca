use native.Mathlib.Omega.{arith}
use Rattle.store.proofs.Lists.FilledParts.{part_filled}
use Rattle.store.proofs.write.clear_numbers.Goals as goal

pub returns : goal.returns
returns c = part_filled _ _ _ _ _ (omega arith) (c.fill.ensures.after (λ y e. e))
