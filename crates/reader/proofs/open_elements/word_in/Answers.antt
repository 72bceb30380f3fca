use Rattle.reader.proofs.WordLaws.{own-words}
use Rattle.reader.proofs.open_elements.word_in.Goals as goal

pub returns-then-a-eq0 : goal.returns-then-a-eq0
returns-then-a-eq0 c = search own-words

pub returns : goal.returns
returns c = search own-words
