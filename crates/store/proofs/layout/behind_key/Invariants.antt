use mathlib.Core.Path.{◌≡◌}
use Prim.Native.Nat.{◌-◌, ◌*◌}
use Rattle.names.specs.Key.{are_levels, is_key}
use Rattle.names.specs.code.HeldKey.{read_key}
use Rattle.store.specs.code.Entry.{after_key}
use Rattle.store.proofs.layout.behind_key.Given as goal

abbrev pub invariant-loop-level : goal.invariant-loop-level
invariant-loop-level l = after_key is_key (read_key l.names l.s) ≡ after_key are_levels (read_key (l.names - 1 - 2 * l.level) l.rest)
