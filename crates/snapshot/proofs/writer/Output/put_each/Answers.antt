use mathlib.Core.Path.{refl, sym}
use native.Mathlib.Omega.{arith}
use Rattle.snapshot.proofs.ByteTexts.{escaping, escape-all}
use borrow.Author.Rules.{rules}
use Rattle.snapshot.proofs.writer.Output.put_each.Goals as goal

pub loop-c-preserved : goal.loop-c-preserved
loop-c-preserved c = (search rules, search escaping)

pub returns : goal.returns
returns c =
    let w = escape-all _ _ _ c.loop-c.rest c.loop-c.invariant.1 (search rules) in
    let e = c.self-1.given.1 (sym w.lent) in
    (record { emitted = rw e w.emitted; lent = refl }, let a = c.loop-c.invariant.0 in let b = c.loop-c.auto.c-index-end in omega arith)
