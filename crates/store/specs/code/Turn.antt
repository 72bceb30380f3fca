-- Allowed in turn, asked of the table: "make: not live and, beyond depth 1, parent live; write and end: live".
use Rattle.std.specs.Prelude.{Bool, true, false, not, ◌||◌, List, [], ◌∷◌, eqb, leb, length}
use Rattle.std.proofs.Math.Option.{Option, none, some}
use Rattle.names.specs.Key.{Key, depth_of}
use Rattle.names.specs.Pick.{◌and◌}
use Rattle.store.specs.Change.{Kind, make, write, end, Change, is_change, parent_of, Value}
use Rattle.store.specs.Machine.{live_most}
use Rattle.store.specs.Table.{Entity, entity, applied, lookup}

unfoldable pub in_table : Option Value → Bool
in_table none = false
in_table (some v) = true

-- The table has the key.
unfoldable pub holds : Key → List Entity → Bool
holds k es = in_table (lookup k es)

unfoldable pub rooted : List Entity → Key → Bool
rooted es k = eqb (depth_of k) 1 || holds (parent_of k) es

unfoldable pub allowed_in : Kind → List Entity → Key → Bool
allowed_in make es k = not (holds k es) and rooted es k
allowed_in write es k = holds k es
allowed_in end es k = holds k es

-- The table after a change.
unfoldable pub changed : Change → List Entity → List Entity
changed c es = applied c.kind (entity c.key c.value) es

-- A change is allowed in its turn, and leaves no more than 512 live.
unfoldable pub turn : List Entity → Change → Bool
turn es c = is_change c and allowed_in c.kind es c.key and leb (length (changed c es)) live_most

-- All of them, one after another.
unfoldable pub turns : List Entity → List Change → Bool
turns es [] = true
turns es (c ∷ cs) = turn es c and turns (changed c es) cs
