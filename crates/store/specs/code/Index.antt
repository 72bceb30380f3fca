-- The live index: the rows of the last make or write of each live entity, in key order.
use Rattle.std.specs.Prelude.{◌≡◌, true, false, Option, Some, None, Result, Ok, Err, List, [], ◌∷◌, ◌++◌, ℕ, suc, ◌+◌, ◌≤◌, ltb, length, take, drop}
use Rattle.names.specs.Bytes.{all}
use Rattle.names.specs.Key.{Key, key_order, covers}
use Rattle.names.specs.Pick.{pick}
use Rattle.std.specs.declared.cmp.Ordering.{Ordering}
use Rattle.std.specs.declared.cmp.Ordering.TheVariants.{Less, Equal, Greater}
use Rattle.store.specs.Machine.{live_most, in_turn}
use Rattle.store.specs.Table.{Entity, table}
use Rattle.store.specs.code.Turn.{holds, turn}
use Rattle.store.specs.code.Rows.{entities_at, first_changes, change_at}
use Rattle.store.specs.declared.replay.LiveIndex.{LiveIndex}

-- How many entities at the front of a table come before a key: where it stands, or belongs.
unfoldable pub rank_by : Ordering → ℕ → ℕ
rank_by Less n = suc n
rank_by Equal n = 0
rank_by Greater n = 0

unfoldable pub rank : Key → List Entity → ℕ
rank k [] = 0
rank k (f ∷ fs) = rank_by (key_order f.key k) (rank k fs)

-- Ok where the key stands, Err where it belongs.
unfoldable pub position_in : Key → List Entity → Result ℕ ℕ
position_in k es = pick (holds k es) (Ok (rank k es)) (Err (rank k es))

-- How many do not come after it.
unfoldable pub rank_behind : Key → List Entity → ℕ
rank_behind k es = rank k es + pick (holds k es) 1 0

-- The key stands at a place of the table; it is not there, and belongs at a place.
pub record Stands (k : Key) (es : List Entity) (p : ℕ) : Type 0 where
  pub held : holds k es ≡ true
  pub place : p ≡ rank k es

pub record Belongs (k : Key) (es : List Entity) (p : ℕ) : Type 0 where
  pub missing : holds k es ≡ false
  pub place : p ≡ rank k es

-- How many entities at the front of a table a key covers.
unfoldable pub covered_run : Key → List Entity → ℕ
covered_run k [] = 0
covered_run k (f ∷ fs) = pick (covers k f.key) (suc (covered_run k fs)) 0

-- A list with one more element at a place, and without those between two places.
module _ {A : Type 0} where
  unfoldable pub inserted : List A → ℕ → A → List A
  inserted l p x = take p l ++ x ∷ drop p l

  unfoldable pub removed : List A → ℕ → ℕ → List A
  removed l p q = take p l ++ drop q l

-- The entities of the first n rows of an index.
abbrev pub table_at : List ℕ → List ℕ → List ℕ → ℕ → List Entity
table_at ns bs index n = entities_at ns bs (take n index)

-- The first n of the index are rows below c.
pub record ListedRows (c : ℕ) (index : List ℕ) (n : ℕ) : Type 0 where
  pub few : n ≤ live_most
  pub long : length index ≡ live_most
  pub below : all (λ r. ltb r c) (take n index) ≡ true

-- And they say the table of the first c changes.
pub record Indexed (ns bs : List ℕ) (c : ℕ) (index : List ℕ) (n : ℕ) : Type 0 where
  pub rows : ListedRows c index n
  pub says : entities_at ns bs (take n index) ≡ table (first_changes ns bs c)
  pub lawful : in_turn [] (first_changes ns bs c) ≡ true

-- What applying change c says: it is not allowed in its turn, or the index goes on. With it comes the place where the next key is looked for first.
abbrev pub Applied : List ℕ → List ℕ → ℕ → List ℕ → Option LiveIndex → Type 0
Applied ns bs c index (Some s) = Indexed ns bs (c + 1) index s.entries
Applied ns bs c index None = turn (table (first_changes ns bs c)) (change_at ns bs c) ≡ false

-- What replaying the first c changes says.
abbrev pub Replayed : List ℕ → List ℕ → ℕ → List ℕ → Option LiveIndex → Type 0
Replayed ns bs c index (Some s) = Indexed ns bs c index s.entries
Replayed ns bs c index None = in_turn [] (first_changes ns bs c) ≡ false
