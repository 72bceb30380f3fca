use Rattle.reader.proofs.Pieces.{to_open, to_stray, to_here}
use Rattle.reader.proofs.ByteRuns.{written_scanned}
use Rattle.reader.proofs.tag.written_to.Goals as goal

pub returns-in_err-after_byte : goal.returns-in_err-after_byte
returns-in_err-after_byte c =
    rw c.from_residual.ensures (to_open _ _ _ _ (written_scanned _ c.requires.q_value _ _ _ c.requires.runs _ c.value_run-e.ensures) c.in_err-after_byte.ensures)

pub returns-then-not-escapes_fine : goal.returns-then-not-escapes_fine
returns-then-not-escapes_fine c =
    to_stray _ _ _ _ (written_scanned _ c.requires.q_value _ _ _ c.requires.runs _ c.value_run-e.ensures) _ c.in_ok-after_byte.ensures _ c.escapes_fine.ensures c.if-not-escapes_fine.true

pub returns : goal.returns
returns c =
    to_here _ _ _ _ (written_scanned _ c.requires.q_value _ _ _ c.requires.runs _ c.value_run-e.ensures) _ c.in_ok-after_byte.ensures _ c.escapes_fine.ensures c.if-not-escapes_fine.false
