use Rattle.std.proofs.Common.{arith}
use Rattle.reader.proofs.ByteRuns.{front_runs, front_scanned, front-end, runs_scanned}
use Rattle.reader.proofs.scan.short_run.Goals as goal

pub returns-then-i-end : goal.returns-then-i-end
returns-then-i-end g c = λ p t u.
    let e = c.run_len.ensures.run p t in
    rw e (front_scanned p c.args.s.now c.args.at _ (omega arith) (omega arith))

pub returns : goal.returns
returns g c = λ p t u.
    let s = c.args.s.now in
    let e = c.run_len.ensures.run p t in
    let j = c.blocks_of-j.result in
    runs_scanned p s c.args.at _ (rw e (front_runs p s c.args.at _ (omega arith))) _
    (runs_scanned p s _ j (c.blocks_of-j.ensures.run p u) _ (rw (c.run_len-2.ensures.run p t) (front-end p s j _ (omega arith) (omega arith))))
