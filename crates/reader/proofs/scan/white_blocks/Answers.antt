use Rattle.std.proofs.Common.{◌≡◌, ℕ, Bool, true, ◌+◌, ◌-◌, arith, rules, sym, ◌∙◌, get_or}
use lib.Dec.{eqb}
use Rattle.names.specs.Class.{is_white}
use Rattle.reader.specs.code.ByteRun.{Runs}
use Rattle.reader.proofs.ByteRuns.{runs_none, runs_join, runs_repeated, runs_front}
use Rattle.reader.proofs.scan.white_blocks.Goals as goal

pub loop-i-init : goal.loop-i-init
loop-i-init c = (c.requires.classes, runs_none is_white _ _ c.requires.at_in_bounds)

pub loop-i-preserved : goal.loop-i-preserved
loop-i-preserved c =
    let s = c.args.s.now in
    let i = c.loop-i.i in
    let w = get_or s (i + 64 - 1) 0 in
    let repeated : ℕ → Bool = λ b. eqb b w in
    let white : is_white w ≡ true = sym c.is_white.ensures ∙ c.if-not-is_white.false in
    let run : Runs repeated s i c.blocks_of-j.result = runs_front repeated s i _ _ c.tried_to-end.ensures.1 (c.blocks_of-j.ensures.run repeated (λ b r e. search rules)) in
    (c.loop-i.invariant.0, runs_join is_white s _ i c.loop-i.invariant.1 _ (runs_repeated s i _ w white run))
