use Rattle.std.proofs.Common.{arith, sym, ap, ◌∙◌}
use Rattle.std.specs.Slice.Iter.{chunks_exact_rest, chunks_exact_size}
use Rattle.reader.proofs.ByteRuns.{rest_whole, runs_none, runs_block, block_within, block_rest}
use Rattle.reader.proofs.scan.blocks_of.Goals as goal

pub loop-block-init : goal.loop-block-init
loop-block-init g c =
    let same = c.into_iter-block-iterator.ensures.into_iter_gives in
    let made = c.chunks_exact-block-items.ensures in
    let h = c.requires.at_in_bounds in
    let z = ap chunks_exact_size same ∙ made.size in
    (omega (arith, z), tt, omega arith, h, ap chunks_exact_rest same ∙ made.rest ∙ rest_whole c.args.s.now c.args.at, z, λ p t. runs_none p _ _ h)

pub loop-block-preserved : goal.loop-block-preserved
loop-block-preserved g c =
    let s = c.args.s.now in
    let i = c.loop-block.i in
    let v = c.loop-block.invariant in
    let n = c.in-Some.ensures.steps in
    let e = sym v.4 ∙ n.1.0 in
    let l = n.1.1 ∙ v.5 in
    let z = n.0 ∙ v.5 in (
      omega (arith, z),
      tt,
      omega (arith, v.2),
      block_within s i _ _ e l v.3,
      block_rest s i _ _ e l,
      z,
      λ p t. runs_block p s _ i (v.6 p t) _ _ e l _ (c.all_pass.ensures p t) c.if-not-all_pass.false,
    )
