use Prim.Native.Nat.{◌≤◌}
use mathlib.Core.Path.{◌≡◌}
use Rattle.store.specs.code.Layout.{file_count}
use Rattle.store.specs.Machine.{standing}
use Rattle.store.specs.code.Pending.{machine_of}
use Rattle.store.proofs.Calls.StandingLaws.{files_to}
use Rattle.store.proofs.standing.is_standing.Given as goal

abbrev pub invariant-loop-f : goal.invariant-loop-f
invariant-loop-f l = (l.f ≤ file_count l.numbers) × (standing l.oid (machine_of l.numbers l.bytes).files ≡ standing l.oid (files_to l.numbers l.bytes l.f))
