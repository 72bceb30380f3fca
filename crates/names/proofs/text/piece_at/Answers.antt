use Rattle.names.proofs.Decode.{piece-tests}
use Rattle.names.proofs.text.piece_at.Goals as goal

pub returns-in-38 : goal.returns-in-38
returns-in-38 c = search piece-tests

pub returns-in_default : goal.returns-in_default
returns-in_default c = search piece-tests
