use Rattle.std.proofs.Common.{arith}
use Rattle.reader.proofs.ByteRuns.{runs_scanned, front-end}
use Rattle.reader.proofs.scan.run_of.Goals as goal

pub returns : goal.returns
returns g c = λ p t.
    let s = c.args.s.now in
    let i = c.blocks_of-i.result in
    runs_scanned p s _ i (c.blocks_of-i.ensures.run p t) _ (rw (c.run_len.ensures.run p t) (front-end p s i _ (omega arith) (omega arith)))
