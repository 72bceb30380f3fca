use Rattle.std.proofs.Common.{arith, sym}
use borrow.Author.Tests.{ltb-true, ltb-false}
use Rattle.names.proofs.KeyReads.{name_ended, name-long, name-short}
use Rattle.names.proofs.key.whole_name.Goals as goal
use Rattle.names.proofs.key.whole_name.Goals.{then-l-gt-NAME_MOST-via-then-l-gt-NAME_MOST, then-l-gt-NAME_MOST-via-else-l-gt-NAME_MOST+then-s-t}

pub returns-in_err-l : goal.returns-in_err-l
returns-in_err-l c = let a = c.args in rw c.from_residual.ensures (name_ended a.s.now a.e (ltb-false _ _ (sym c.in_err-l.ensures.lookup.0)))

pub returns-then-l-gt-NAME_MOST : goal.returns-then-l-gt-NAME_MOST
returns-then-l-gt-NAME_MOST c =
    let a = c.args in
    let v = c.in_ok-l.ensures.lookup in
    let h = ltb-true _ _ (sym v.0) in
    elim c.then-l-gt-NAME_MOST.branch [
      | then-l-gt-NAME_MOST-via-then-l-gt-NAME_MOST w ↦ name-long a.s.now a.e h (omega arith)
      | then-l-gt-NAME_MOST-via-else-l-gt-NAME_MOST+then-s-t w ↦ name-short a.s.now a.e h (omega arith) (omega arith)
    ]
