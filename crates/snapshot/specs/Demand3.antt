-- Demand 3: the files still standing, in their order, decide the store. "One claim about the whole list and not one for each call; its machine is demand
-- 2's." That it holds of every list of calls after an accepted Open is `demand3` in proofs/Demand3.antt.
use Rattle.std.specs.Prelude.{◌≡◌, false, List, [], ◌∷◌, ◌++◌, ℕ, length, take}
use Rattle.std.proofs.Math.Option.{none}
use Rattle.names.specs.Key.{Key, key_order, same_key}
use Rattle.names.specs.Pick.{pick}
use Rattle.std.specs.declared.cmp.Ordering.TheVariants.{Less}
use Rattle.store.specs.Answer.{accepted}
use Rattle.store.specs.Change.{live, value_of}
use Rattle.store.specs.Machine.{Machine, changes_of, empty}
use Rattle.store.specs.Table.{Entity, table, lookup}
use Rattle.store.specs.Image.{Buffers, image}
use Rattle.store.specs.Calls.{Outcome}
use Rattle.reader.specs.Import.{import_call}
use Rattle.snapshot.specs.Snapshot.{snapshot_call}
use Rattle.snapshot.specs.Chain.{Call, call, buffers_after, standing_after, takes, answers}

-- The live table of a machine, which its snapshots are written from, is its live entities.
abbrev pub live_table : Machine → List Entity
live_table m = table (changes_of m.files)

pub record Lives (m : Machine) : Type 0 where
  -- "live if it was made and its last make is not followed by an end of itself or an ancestor"; "value is that of its last make or write": a key stands in
  -- the table exactly if it is live, with its value.
  pub exactly : (k : Key) → lookup k (live_table m) ≡ pick (live (changes_of m.files) k) (value_of (changes_of m.files) k) none
  -- "in key order", and each live key once: of any two entities the one in front has the lesser key, and never the same.
  pub ordered : (xs ys zs : List Entity) (e f : Entity) → live_table m ≡ xs ++ e ∷ (ys ++ f ∷ zs)
      → (key_order e.key f.key ≡ Less) × (same_key e.key f.key ≡ false)

-- An import that restores the live entities of a machine:
pub record Restores (m : Machine) (o : Outcome) : Type 0 where
  -- it is accepted ("a refusal number (0 accepted)"),
  pub accepted' : o.refusal ≡ 0
  -- "count is changes added": as many as entities are live, each standing in the table once,
  pub counted : o.count ≡ length (live_table m)
  -- and the store that it leaves has the same live entities, with their values.
  pub restored : Machine
  pub left : o.buffers ≡ image restored
  pub same_live : live_table restored ≡ live_table m
  pub lives : Lives restored

-- What demand 3 says of a list of calls on the buffers b, "as an accepted Open left them", of this study and version.
pub record Demand3 (study version : List ℕ) (b : Buffers) (cs : List Call) : Type 0 where
  -- "The machine starts as that Open says, with no file and no change"; "An empty store is one as Open leaves it."
  pub start : b ≡ image (empty study version)
  -- "and takes the standing files in turn, refusing none";
  pub machine : Machine
  pub took : takes (empty study version) (standing_after [] b cs) ≡ accepted machine
  -- (1) "both buffers are the image of its state."
  pub buffers : buffers_after b cs ≡ image machine
  -- (2) "On the files standing before a call it gives the call's two numbers and output by this document"; the buffers, too.
  pub each : (xs ys : List Call) (c : Call) → cs ≡ xs ++ c ∷ ys
      → (before : Machine) × (takes (empty study version) (standing_after [] b xs) ≡ accepted before) × (call (buffers_after b xs) c ≡ answers before c)
  -- (3) Live are exactly the entities made and not ended since, each with its last value.
  pub lives : Lives machine
  -- (4) Every accepted snapshot, whatever its FileOID and date, restores them in an empty store of that study and version.
  pub restoring : (oid date out : List ℕ) → (snapshot_call (buffers_after b cs) oid date out).refusal ≡ 0
      → let w = snapshot_call (buffers_after b cs) oid date out in Restores machine (import_call (image (empty study version)) (take w.count w.output))
