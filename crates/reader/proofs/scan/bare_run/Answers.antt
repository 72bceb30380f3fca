use Rattle.std.proofs.Common.{arith, rules}
use Rattle.reader.specs.code.ByteRun.{is_bare}
use Rattle.reader.proofs.ByteRuns.{front_runs}
use Rattle.reader.proofs.scan.bare_run.Goals as goal

pub returns : goal.returns
returns c = rw (c.run_len.ensures.run is_bare (λ b r e. search rules)) (front_runs is_bare c.args.s.now c.args.at _ (omega arith))
