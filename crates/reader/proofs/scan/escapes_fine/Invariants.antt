use mathlib.Core.Path.{◌≡◌}
use Prim.Native.Nat.{◌≤◌, ◌-◌}
use lib.ListN.{length, drop}
use Rattle.names.specs.Text.{decode}
use Rattle.reader.specs.code.Places.{is_some}
use Rattle.reader.proofs.scan.escapes_fine.Given as goal

abbrev pub invariant-loop-i : goal.invariant-loop-i
invariant-loop-i l = (l.i ≤ length l.s) × (is_some (decode l.s) ≡ is_some (decode (drop l.i l.s)))

abbrev pub decreases-loop-i : goal.decreases-loop-i
decreases-loop-i l = length l.s - l.i
