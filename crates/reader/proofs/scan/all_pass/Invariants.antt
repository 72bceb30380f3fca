use Rattle.std.proofs.Common.{◌≡◌, ℕ, Bool, drop}
use Rattle.names.specs.Bytes.{all}
use Rattle.names.specs.Pick.{◌and◌}
use Rattle.reader.specs.code.ByteRun.{Tests}
use Rattle.reader.proofs.scan.all_pass.Given as goal

abbrev pub invariant-loop-b : goal.invariant-loop-b
invariant-loop-b g l = (p : ℕ → Bool) → Tests (goal.F-post g l.test) p → all p l.s ≡ (l.passed and all p (drop l.b-index l.s))
