use Rattle.std.proofs.Common.{refl}
use Rattle.names.specs.Pick.{◌and◌}
use Rattle.reader.proofs.ByteRuns.{pass_next, pass-end}
use Rattle.reader.proofs.scan.all_pass.Goals as goal

pub loop-b-init : goal.loop-b-init
unfolding ◌and◌
loop-b-init g c = λ p t. refl

pub loop-b-preserved : goal.loop-b-preserved
loop-b-preserved g c = λ p t. pass_next p _ _ _ (c.loop-b.invariant p t) _ (t _ _ c.test-passed.ensures) c.loop-b-test.true

pub returns : goal.returns
returns g c = λ p t. pass-end p _ _ _ (c.loop-b.invariant p t) c.loop-b-test.false
