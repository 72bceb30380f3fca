use Rattle.reader.proofs.Pieces.{value-cases, value_open, value_here}
use Rattle.reader.proofs.TagBytes.{quote_told}
use Rattle.reader.proofs.tag.value_end.Goals as goal
use Rattle.reader.proofs.tag.value_end.Goals.{then-s-at-via-then-s-at, then-s-at-via-else-s-at+then-not-is_quote}

pub returns-then-s-at : goal.returns-then-s-at
returns-then-s-at c =
    elim c.then-s-at.branch [ then-s-at-via-then-s-at w ↦ search value-cases | then-s-at-via-else-s-at+then-not-is_quote w ↦ search value-cases ]

pub returns-in_err-e : goal.returns-in_err-e
returns-in_err-e c = rw c.from_residual.ensures (value_open _ _ _ c.is_quote.ensures c.if-not-is_quote.false c.if-s-at.false c.in_err-e.ensures)

pub returns : goal.returns
returns c = value_here _ _ _ c.is_quote.ensures c.if-not-is_quote.false c.if-s-at.false _ c.in_ok-e.ensures

pub value_to-requires-clause-q_value : goal.value_to-requires-clause-q_value
value_to-requires-clause-q_value c = search quote_told
