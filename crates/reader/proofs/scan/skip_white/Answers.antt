use Rattle.names.specs.Class.{is_white}
use Rattle.reader.proofs.ByteRuns.{runs_none, runs_on, runs_stop, runs_end, runs_scanned}
use Rattle.reader.proofs.scan.skip_white.Goals as goal
use Rattle.reader.proofs.scan.skip_white.Goals.{then-s-at-via-then-s-at, then-s-at-via-else-s-at+then-not-is_white, then-s-i-via-then-s-i, then-s-i-via-else-s-i+then-not-is_white-2}

pub returns-then-s-at : goal.returns-then-s-at
returns-then-s-at c =
    let none = runs_none is_white c.args.s.now c.args.at c.requires.at_in_bounds in
    elim c.then-s-at.branch [
      | then-s-at-via-then-s-at w ↦ runs_end _ _ _ _ none w.if-s-at.true
      | then-s-at-via-else-s-at+then-not-is_white w ↦ runs_stop _ _ _ _ none _ w.is_white.ensures w.if-not-is_white.true w.if-s-at.false
    ]

pub returns-then-s-i : goal.returns-then-s-i
returns-then-s-i c =
    let none = runs_none is_white c.args.s.now c.args.at c.requires.at_in_bounds in
    let one = runs_on _ _ _ _ none _ c.is_white.ensures c.if-not-is_white.false c.if-s-at.false in
    elim c.then-s-i.branch [
      | then-s-i-via-then-s-i w ↦ runs_end _ _ _ _ one w.if-s-i.true
      | then-s-i-via-else-s-i+then-not-is_white-2 w ↦ runs_stop _ _ _ _ one _ w.is_white-else-s-i.ensures w.if-not-is_white-2.true w.if-s-i.false
    ]

pub returns : goal.returns
returns c =
    let none = runs_none is_white c.args.s.now c.args.at c.requires.at_in_bounds in
    let one = runs_on _ _ _ _ none _ c.is_white.ensures c.if-not-is_white.false c.if-s-at.false in
    let two = runs_on _ _ _ _ one _ c.is_white-else-s-i.ensures c.if-not-is_white-2.false c.if-s-i.false in
    runs_scanned _ _ _ _ two _ c.white_run.ensures
