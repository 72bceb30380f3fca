use Rattle.reader.proofs.ImportAnswers.{behind-odm}
use Rattle.reader.proofs.tell.white_to_end.Goals as goal

pub returns-then-skip_white-s : goal.returns-then-skip_white-s
returns-then-skip_white-s c = search behind-odm

pub returns-else-skip_white-s : goal.returns-else-skip_white-s
returns-else-skip_white-s c = search behind-odm
