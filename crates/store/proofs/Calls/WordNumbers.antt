-- The five words and their numbers.
use mathlib.Core.Path.{◌≡◌, refl}
use Rattle.names.specs.Pick.{pick}
use Rattle.store.specs.code.Deciding.{word_number, word_numbered}
use Rattle.store.specs.Word.{Word, insert, update, upsert, remove, context}

pub word_numbered_lem : (w : Word) → word_numbered (word_number w) ≡ w
unfolding word_numbered word_number pick
word_numbered_lem insert = refl
word_numbered_lem update = refl
word_numbered_lem upsert = refl
word_numbered_lem remove = refl
word_numbered_lem context = refl
