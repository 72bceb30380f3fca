use mathlib.Core.Path.{◌≡◌, sym}
use mathlib.Core.Bool.{true}
use native.Mathlib.Omega.{arith}
use borrow.Author.Rules.{rules}
use Rattle.names.proofs.PickLaws.{picks}
use Rattle.names.specs.Pick.{pick}
use Rattle.names.specs.Text.{escapes, escape_by}
use Rattle.snapshot.specs.code.Writing.{is_plain_byte}
use Rattle.snapshot.proofs.ByteTexts.{plain_byte}
use Rattle.snapshot.proofs.writer.Output.put_byte.Goals as goal

pub returns-in-38 : goal.returns-in-38
unfolding escape_by escapes pick
returns-in-38 c = let w = c.put.ensures.emitted.next in (rw c.in-38.is (search rules), omega arith)

pub returns-in-60 : goal.returns-in-60
unfolding escape_by escapes pick
returns-in-60 c = let w = c.put-in-60.ensures.emitted.next in (rw c.in-60.is (search rules), omega arith)

pub returns-in-62 : goal.returns-in-62
unfolding escape_by escapes pick
returns-in-62 c = let w = c.put-in-62.ensures.emitted.next in (rw c.in-62.is (search rules), omega arith)

pub returns-in-34 : goal.returns-in-34
unfolding escape_by escapes pick
returns-in-34 c = let w = c.put-in-34.ensures.emitted.next in (rw c.in-34.is (search rules), omega arith)

pub returns-in_default : goal.returns-in_default
unfolding is_plain_byte
returns-in_default c =
    let e : true ≡ is_plain_byte c.args.c = search picks depth 8 in
    let w = c.put-in_default.ensures.emitted.next in
    (rw (plain_byte c.args.c (sym e)) (search rules), omega arith)
