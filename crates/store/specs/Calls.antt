-- Open and Withdraw.
use Rattle.std.specs.Prelude.{Bool, List, [], ◌∷◌, ℕ, eqb, length}
use Rattle.names.specs.Name.{is_long_name}
use Rattle.names.specs.Order.{same}
use Rattle.names.specs.Pick.{◌and◌}
use Rattle.store.specs.Answer.{Answer, refused, accepted, ◌>>=◌, ◌>>◌, unless, present}
use Rattle.store.specs.Machine.{Filed, Machine, with_files, last_filed, empty}
use Rattle.store.specs.Image.{Buffers, image, read_image, numbers_size, bytes_size}

-- What an accepted call names and leaves: its count, and the machine.
pub record Accepted : Type 0 where
  pub count : ℕ
  pub machine : Machine

-- "Each returns a refusal number (0 accepted) and a count, 0 when refused."
pub record Outcome : Type 0 where
  pub refusal : ℕ
  pub count : ℕ
  pub buffers : Buffers

-- "A refused call changes no lent buffer."
unfoldable pub outcome : Buffers → Answer Accepted → Outcome
outcome b (refused n) = record { refusal = n; count = 0; buffers = b }
outcome b (accepted t) = record { refusal = 0; count = t.count; buffers = image t.machine }

-- "1 a store buffer of another length"
unfoldable pub right_lengths : Buffers → Bool
right_lengths b = eqb (length b.numbers) numbers_size and eqb (length b.bytes) bytes_size

-- The machine that a store is the image of: "Checks 1, 2".
unfoldable pub opened : Buffers → Answer Machine
opened b = unless (right_lengths b) 1 >> present (read_image b) 2

-- "Open (both buffers, StudyOID, MetaDataVersionOID): writes the empty image over anything; count is 0. Checks 1, 7."
unfoldable pub open_empty : Buffers → List ℕ → List ℕ → Answer Accepted
open_empty b study version =
    unless (right_lengths b) 1
    >> unless (is_long_name study and is_long_name version) 7
    >> accepted record { count = 0; machine = empty study version }

unfoldable pub open_call : Buffers → List ℕ → List ℕ → Outcome
open_call b study version = outcome b (open_empty b study version)

module _ {A : Type 0} where
  unfoldable pub without_last : List A → List A
  without_last [] = []
  without_last (x ∷ []) = []
  without_last (x ∷ y ∷ xs) = x ∷ without_last (y ∷ xs)

-- "strikes the last standing file ..; count is changes struck"
unfoldable pub strike : Machine → Filed → Accepted
strike m f = record { count = length f.changes; machine = with_files m (without_last m.files) }

-- "15 not the last standing FileOID"
unfoldable pub withdraw : Machine → List ℕ → Answer Accepted
withdraw m oid = present (last_filed m.files) 15 >>= λ f. unless (same oid f.oid) 15 >> accepted (strike m f)

-- "Withdraw (store, FileOID) .. Checks 1, 2, 15."
unfoldable pub withdraw_call : Buffers → List ℕ → Outcome
withdraw_call b oid = outcome b (opened b >>= λ m. withdraw m oid)
