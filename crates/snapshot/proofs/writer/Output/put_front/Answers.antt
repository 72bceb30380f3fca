use native.Mathlib.Omega.{arith}
use Rattle.snapshot.proofs.SnapshotTexts.{front_put}
use Rattle.snapshot.proofs.WalkLaws.{study-length, version-length}
use borrow.Author.Rules.{rules}
use Rattle.snapshot.proofs.writer.Output.put_front.Goals as goal

pub long_name-study-requires : goal.long_name-study-requires
long_name-study-requires c = (search rules, study-length c.args.numbers.now c.args.bytes.now c.requires.valid, omega arith)

pub long_name-version-requires : goal.long_name-version-requires
long_name-version-requires c = (search rules, version-length c.args.numbers.now c.args.bytes.now c.requires.valid, omega arith)

pub returns : goal.returns
returns c = (search front_put, omega arith)
