-- Lists of calls on a store, their answers, and the files that stand.
use Rattle.std.specs.Prelude.{List, [], ◌∷◌, ◌++◌, ℕ, eqb, length}
use Rattle.names.specs.Pick.{pick}
use Rattle.store.specs.Answer.{Answer, accepted, ◌>>=◌}
use Rattle.store.specs.Machine.{Machine}
use Rattle.store.specs.Image.{Buffers, image}
use Rattle.store.specs.Calls.{Outcome, outcome, withdraw, withdraw_call, without_last}
use Rattle.reader.specs.Import.{import_file, import_call}
use Rattle.snapshot.specs.Snapshot.{Reply, written_to, snapshot, snapshot_call}

-- "In demand 3's lists (Import, Withdraw, Snapshot; the empty list too) .. files, FileOIDs, dates and outputs are each call's own."
pub data Call : Type 0 where
  importing : List ℕ → Call
  withdrawing : List ℕ → Call
  snapshotting : List ℕ → List ℕ → List ℕ → Call

-- The answer of a call that has no output.
unfoldable pub replied : Outcome → Reply
replied o = record { refusal = o.refusal; count = o.count; buffers = o.buffers; output = [] }

-- A call on the buffers.
unfoldable pub call : Buffers → Call → Reply
call b (importing file) = replied (import_call b file)
call b (withdrawing oid) = replied (withdraw_call b oid)
call b (snapshotting oid date out) = snapshot_call b oid date out

-- "each later one [gets the buffers] as the call before left them"
unfoldable pub buffers_after : Buffers → List Call → Buffers
buffers_after b [] = b
buffers_after b (c ∷ cs) = buffers_after (call b c).buffers cs

-- "Standing files come from calls and refusal numbers: none at first; an Import answering 0 adds its file last, a Withdraw answering 0 drops the
-- last, no other call changes them."
unfoldable pub still_standing : List (List ℕ) → Call → ℕ → List (List ℕ)
still_standing fs (importing file) refusal = pick (eqb refusal 0) (fs ++ file ∷ []) fs
still_standing fs (withdrawing oid) refusal = pick (eqb refusal 0) (without_last fs) fs
still_standing fs (snapshotting oid date out) refusal = fs

unfoldable pub standing_after : List (List ℕ) → Buffers → List Call → List (List ℕ)
standing_after fs b [] = fs
standing_after fs b (c ∷ cs) = standing_after (still_standing fs c (call b c).refusal) (call b c).buffers cs

-- "The machine .. takes the standing files in turn, refusing none".
unfoldable pub takes : Machine → List (List ℕ) → Answer Machine
takes m [] = accepted m
takes m (f ∷ fs) = import_file m f >>= λ t. takes t.machine fs

-- "On the files standing before a call it gives the call's two numbers and output by this document."
unfoldable pub answers : Machine → Call → Reply
answers m (importing file) = replied (outcome (image m) (import_file m file))
answers m (withdrawing oid) = replied (outcome (image m) (withdraw m oid))
answers m (snapshotting oid date out) = written_to (image m) out (snapshot m oid date (length out))
