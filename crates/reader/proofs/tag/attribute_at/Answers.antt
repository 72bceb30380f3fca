use Rattle.reader.proofs.Pieces.{attr_unspaced, attr_unnamed, attr_unequal, attr_unquoted, attr_one, attr-inside}
use Rattle.reader.proofs.tag.attribute_at.Goals as goal

pub returns-then-name-at : goal.returns-then-name-at
returns-then-name-at c = record { result_value = attr_unspaced _ _ _ c.skip_white-name.ensures c.if-name-at.true; one_within = tt }

pub returns-in_err-end : goal.returns-in_err-end
returns-in_err-end c =
    rw c.from_residual.ensures
    record { result_value = attr_unnamed _ _ _ c.skip_white-name.ensures c.if-name-at.false c.in_err-end.ensures; one_within = tt }

pub returns-in_err-quote : goal.returns-in_err-quote
returns-in_err-quote c =
    rw c.from_residual-in_err-quote.ensures
    record { result_value = attr_unequal _ _ _ c.skip_white-name.ensures c.if-name-at.false _ c.in_ok-end.ensures c.in_err-quote.ensures; one_within = tt }

pub returns-in_err-next : goal.returns-in_err-next
returns-in_err-next c =
    rw c.from_residual-in_err-next.ensures
    record {
      result_value = attr_unquoted _ _ _ c.skip_white-name.ensures c.if-name-at.false _ c.in_ok-end.ensures _ c.in_ok-quote.ensures c.in_err-next.ensures;
      one_within = tt;
    }

pub returns : goal.returns
returns c =
    record {
      result_value = attr_one _ _ _ c.skip_white-name.ensures c.if-name-at.false _ c.in_ok-end.ensures _ c.in_ok-quote.ensures _ c.in_ok-next.ensures;
      one_within = attr-inside _ _ _ c.skip_white-name.ensures c.if-name-at.false _ c.in_ok-end.ensures _ c.in_ok-quote.ensures _ c.in_ok-next.ensures;
    }
