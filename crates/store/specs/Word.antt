-- The five transaction words, and what each decides for an entity live or not live.
use Rattle.std.specs.Prelude.{Bool, true, false, List, ℕ}
use Rattle.names.specs.Bytes.{bytes}
use Rattle.store.specs.Change.{Kind, make, write, end}

pub data Word : Type 0 where
  insert update upsert remove context : Word

unfoldable pub word_text : Word → List ℕ
word_text insert = bytes "Insert"
word_text update = bytes "Update"
word_text upsert = bytes "Upsert"
word_text remove = bytes "Remove"
word_text context = bytes "Context"

-- A decision: a refusal, no change, or a change.
pub data Decision : Type 0 where
  refuse : ℕ → Decision
  nothing : Decision
  add : Kind → Decision

-- "an item with Value or IsNull gets a write; otherwise no change"
unfoldable pub updated : Bool → Decision
updated true = add write
updated false = nothing

-- By the word, whether the entity is live, and whether it is an item with Value or IsNull.
unfoldable pub decide : Word → Bool → Bool → Decision
-- "Insert: live refuses 11; else make."
decide insert true given = refuse 11
decide insert false given = add make
-- "Update: not live refuses 12; an item with Value or IsNull gets a write; otherwise no change."
decide update true given = updated given
decide update false given = refuse 12
-- "Upsert: as Update if live, as Insert if not."
decide upsert true given = updated given
decide upsert false given = add make
-- "Remove: not live refuses 12; else end, which ends all descendants."
decide remove true given = add end
decide remove false given = refuse 12
-- "Context: not live refuses 12; no change."
decide context true given = nothing
decide context false given = refuse 12
