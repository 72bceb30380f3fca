-- The open elements below ODM, as the code holds them: their number, and the number of each one's word; their keys are fronts of the names that are held.
use Rattle.std.specs.Prelude.{List, [], ◌∷◌, ℕ, zero, suc, ◌+◌, ◌-◌, ◌≤◌, eqb, ltb, take, get_or, set, replicate, Option as Optional, Some, None, IfSome, Result}
use Rattle.std.proofs.Math.Option.{Option, none, some}
use Rattle.names.specs.Key.{Name, names_used}
use Rattle.names.specs.Pick.{pick}
use Rattle.store.specs.Answer.{Answer}
use Rattle.store.specs.Word.{Word, context}
use Rattle.store.specs.code.Deciding.{word_numbered}
use Rattle.store.specs.declared.answer.Refusal.{Refusal}
use Rattle.reader.specs.Element.{item, or_else}
use Rattle.reader.specs.code.Answered.{said_as}
use Rattle.reader.specs.Judge.{Frame, frame}
use Rattle.reader.specs.declared.open_elements.OpenElements.{OpenElements}

-- A word by its number, where there is one.
unfoldable pub maybe_word : Optional ℕ → Option Word
maybe_word None = none
maybe_word (Some n) = some (word_numbered n)

-- A text that is none of the five is told as Context's.
abbrev pub word_or_context : Optional ℕ → Word
word_or_context n = or_else context (maybe_word n)

-- No word's number is 0.
abbrev pub Numbered : Optional ℕ → Type 0
Numbered w = IfSome w (λ n. 1 ≤ n)

-- The number as it is held, where 0 says that there is none, as ClinicalData has none; and the word by it.
unfoldable pub word_held : ℕ → Optional ℕ
word_held n = pick (eqb n 0) None (Some n)

unfoldable pub word_at : ℕ → Option Word
word_at n = pick (eqb n 0) none (some (word_numbered n))

-- The innermost of so many first. The key of each is a front of the names that are held, and a Remove's closing tag adds an end.
unfoldable pub frames_in : ℕ → List Name → List ℕ → List Frame
frames_in zero k ws = []
frames_in (suc l) k ws = frame (take (names_used l) k) (word_at (get_or ws l 0)) (eqb (get_or ws l 0) 4) ∷ frames_in l k ws

abbrev pub frames_of : OpenElements → List Name → List Frame
frames_of o k = frames_in o.level k o.words

-- The number of the innermost one's word.
unfoldable pub top_word : OpenElements → ℕ
top_word o = pick (eqb o.level 0) 0 (get_or o.words (o.level - 1) 0)

-- The number of the sort of the items so far, behind an element.
unfoldable pub sort_number : ℕ → ℕ → ℕ
sort_number e n = pick (ltb e item) n (pick (eqb e item) 1 2)

-- None is open, and no item was met.
abbrev pub none_open : OpenElements
none_open = record { level = 0; words = replicate 8 0; items = 0 }

-- One more element is open, with a word; the innermost is closed.
abbrev pub one_more : OpenElements → ℕ → OpenElements
one_more o word = record { level = o.level + 1; words = set o.words o.level word; items = o.items }

abbrev pub one_less : OpenElements → OpenElements
one_less o = record { level = o.level - 1; words = o.words; items = o.items }

-- An element of a number was met.
abbrev pub sorted : OpenElements → ℕ → OpenElements
sorted o e = record { level = o.level; words = o.words; items = sort_number e o.items }

-- The open elements behind a tag, by its element and its kind: it opens an element, is self-closing, or closes the innermost one.
unfoldable pub moved_by : OpenElements → ℕ → ℕ → ℕ → OpenElements
moved_by o e kind word = pick (eqb kind 0) (one_more (sorted o e) word) (pick (eqb kind 1) (sorted o e) (one_less o))

-- The word of an element.
abbrev pub word_answered : Result ℕ Refusal → Answer Word
word_answered r = said_as word_numbered r

-- The number of TransactionType among the attributes of an entity's element.
unfoldable pub word_place : ℕ → ℕ
word_place e = pick (eqb e 2) 1 (pick (eqb e 6) 3 (pick (ltb 6 e) 1 2))
