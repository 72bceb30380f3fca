-- Import on a valid image and on any buffers.
use mathlib.Core.Path.{◌≡◌, refl, sym, ◌∙◌}
use mathlib.Core.List.{List}
use Prim.Native.Nat.{ℕ, ◌≤◌, ◌<◌}
use lib.ListN.{length}
use borrow.Author.Tests.{le-leb, lt-leb}
use Rattle.std.specs.Prelude.{Result, Ok, Err}
use Rattle.store.specs.Answer.{refused, ◌>>=◌, ◌>>◌, unless, present}
use Rattle.store.specs.Calls.{Accepted, Outcome, outcome, opened}
use Rattle.store.specs.Image.{Buffers, image}
use Rattle.store.specs.Outcomes.{buffers}
use Rattle.store.specs.code.Refusals.{number_of}
use Rattle.store.specs.declared.answer.Refusal.{Refusal}
use Rattle.store.proofs.Images.ImageLaws.{read_image-is}
use Rattle.store.proofs.Calls.OpenLaws.{right_lengths_lem}
use Rattle.reader.specs.Import.{file_most, Contents, with_file, import_file, import_call}
use Rattle.reader.specs.code.Answered.{said_as}
use Rattle.store.specs.code.Pending.{machine_of, Begins}
use Rattle.reader.specs.code.FileRead.{contents_at, taken_at, FileTo}
use Rattle.reader.specs.declared.odm.HeaderPlaces.{HeaderPlaces}
use Rattle.store.specs.declared.pending.Pending.{Pending}
use Rattle.reader.proofs.ImportAnswers.{said-on}

-- "Checks 1, 2, 3, then the file."
pub import_refused : (b : Buffers) (s : List ℕ) (n : ℕ) → refused n ≡ opened b → record { refusal = n; count = 0; buffers = b } ≡ import_call b s
unfolding import_call outcome ◌>>=◌
import_refused b s n e = rw (← e)

module _ (ns bs index : List ℕ) (pending : Pending) (g : Begins ns bs index pending) (s : List ℕ) where
  -- The call on a valid image is Import on its machine.
  import_read : import_call (buffers ns bs) s ≡ outcome (buffers ns bs) (import_file (machine_of ns bs) s)
  unfolding import_call opened unless present ◌>>◌ ◌>>=◌
  import_read = rw (right_lengths_lem (buffers ns bs) g.valid.numbers g.valid.bytes, g.valid.read)

  pub import_long : file_most < length s → record { refusal = 3; count = 0; buffers = buffers ns bs } ≡ import_call (buffers ns bs) s
  unfolding import_file outcome unless ◌>>◌ ◌>>=◌
  import_long h = sym (import_read ∙ rw (lt-leb (length s) file_most h))

  module _ (h : length s ≤ file_most) (ns' bs' : List ℕ) (t' : Pending) (r : Result HeaderPlaces Refusal) (w : FileTo ns bs s ns' bs' t' r) where
    taken : Contents → Accepted
    taken c = record { count = length c.changes; machine = with_file (machine_of ns bs) c }

    import_is : import_file (machine_of ns bs) s ≡ said_as (λ h. taken (contents_at ns' bs' s t' h)) r
    unfolding import_file unless taken ◌>>◌ ◌>>=◌
    import_is = rw (le-leb (length s) file_most h, ← w.is) (said-on r (contents_at ns' bs' s t') taken)

    -- The machine is still the one that the call found.
    taken_same : machine_of ns' bs' ≡ machine_of ns bs → (r : Result HeaderPlaces Refusal) → said_as (taken_at ns' bs' s t') r ≡ said_as (λ h. taken (contents_at ns' bs' s t' h)) r
    unfolding taken with_file
    taken_same m (Ok h) = rw m
    taken_same m (Err k) = refl

    pub import_settled : (x : Outcome) → x ≡ outcome (image (machine_of ns' bs')) (said_as (taken_at ns' bs' s t') r) → x ≡ import_call (buffers ns bs) s
    import_settled x e =
        let b : image (machine_of ns bs) ≡ buffers ns bs = (read_image-is (buffers ns bs) (machine_of ns bs) g.valid.read).0 in
        e ∙ rw (import_read, import_is, taken_same w.machine r, w.machine, b)

  -- A refused file is dropped again.
  pub import_dropped : length s ≤ file_most → (ns' bs' : List ℕ) (t' : Pending) (k : Refusal) → FileTo ns bs s ns' bs' t' (Err k) → (ns'' bs'' : List ℕ) → buffers ns'' bs'' ≡ image (machine_of ns' bs')
      → record { refusal = number_of k; count = 0; buffers = buffers ns'' bs'' } ≡ import_call (buffers ns bs) s
  unfolding outcome
  import_dropped h ns' bs' t' k w ns'' bs'' e = import_settled h ns' bs' t' (Err k) w _ (rw e)
