use Rattle.std.proofs.Common.{rules}
use Rattle.names.specs.Class.{is_white}
use Rattle.reader.proofs.ByteRuns.{runs_scanned}
use Rattle.reader.proofs.scan.white_run.Goals as goal

pub returns : goal.returns
returns c = runs_scanned _ _ _ _ c.white_blocks-i.ensures _ (c.short_run.ensures is_white (λ b r e. search rules) (λ b r e. search rules))
