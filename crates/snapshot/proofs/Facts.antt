-- What a table of live entities is known to be.
use mathlib.Core.Path.{◌≡◌}
use mathlib.Core.Bool.{Bool, true, false}
use mathlib.Core.List.{List, [], ◌∷◌, ◌++◌}
use Prim.Native.Nat.{◌≤◌}
use lib.ListN.{length}
use Rattle.names.specs.Bytes.{all}
use Rattle.names.specs.Key.{Key, covers}
use Rattle.names.specs.Pick.{◌and◌}
use Rattle.store.specs.Change.{is_change, parent_of, live, changes_bytes}
use Rattle.store.specs.Machine.{bytes_most, live_most}
use Rattle.store.specs.Table.{Entity, table}
use Rattle.store.proofs.Tables.Size.{makes_of}

-- Each entity's parent is the entity before it, or one above that; `last` is the key before them, of no names at first. An entity of depth 1 has the
-- key of no names for its parent's.
unfoldable pub nested : Key → List Entity → Bool
nested last [] = true
nested last (e ∷ es) = covers (parent_of e.key) last and nested e.key es

pub record TableFacts (es : List Entity) : Type 0 where
  pub forms : all is_change (makes_of es) ≡ true
  pub nests : nested [] es ≡ true
  pub few : length es ≤ live_most
  pub small : length (changes_bytes (makes_of es)) ≤ bytes_most
  pub again : (xs ys : List Entity) → es ≡ xs ++ ys → table (makes_of xs) ≡ xs
  pub new : (xs : List Entity) (e : Entity) (ys : List Entity) → es ≡ xs ++ e ∷ ys → live (makes_of xs) e.key ≡ false
