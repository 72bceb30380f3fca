-- Withdraw by places: what it reads of the last standing file, and what striking it writes.
use Rattle.std.specs.Prelude.{◌≡◌, List, [], ◌∷◌, ℕ, ◌+◌, ◌-◌, ◌*◌, ◌≤◌, ◌<◌, length, replicate}
use Rattle.std.proofs.Math.Option.{some}
use Rattle.names.specs.Overwrite.{overwrite}
use Rattle.store.specs.Image.{contents_size, file_row, change_row, file_slot, numbers_size, bytes_size, machine_in, read_image}
use Rattle.store.specs.code.Layout.{change_count, byte_count, files_at, through_before, bytes_before}
use Rattle.store.specs.Machine.{files_most, changes_most, bytes_most}
use Rattle.store.specs.Outcomes.{buffers}
use Rattle.store.specs.code.Rows.{rows_at, packed_at}

-- The buffers are a valid image: of the machine that is read from them.
pub record Valid (ns bs : List ℕ) : Type 0 where
  pub numbers : length ns ≡ numbers_size
  pub bytes : length bs ≡ bytes_size
  pub read : read_image (buffers ns bs) ≡ some (machine_in (buffers ns bs))

-- What holds of file f, the last of a valid image, so that its places may be read and written.
pub record LastFile (ns bs : List ℕ) (f : ℕ) : Type 0 where
  pub numbers : length ns ≡ numbers_size
  pub bytes : length bs ≡ bytes_size
  pub few : f < files_most
  pub changes : through_before ns f ≤ change_count ns
  pub few-changes : change_count ns ≤ changes_most
  pub packed : bytes_before ns f ≤ byte_count ns
  pub few_bytes : byte_count ns ≤ bytes_most

-- File f is struck: the contents are those before it, and zeros stand in its row and slot, in its change rows and its change bytes.
pub record Struck (ns bs : List ℕ) (f count : ℕ) (ns' bs' : List ℕ) : Type 0 where
  pub count-is : count ≡ change_count ns - through_before ns f
  pub numbers :
      ns'
      ≡ overwrite
      (overwrite (overwrite ns 0 (f ∷ through_before ns f ∷ bytes_before ns f ∷ [])) (contents_size + file_row * f) (replicate file_row 0))
      (rows_at + change_row * through_before ns f) (replicate (change_row * (change_count ns - through_before ns f)) 0)
  pub bytes :
      bs'
      ≡ overwrite (overwrite bs (files_at + file_slot * f) (replicate file_slot 0))
      (packed_at + bytes_before ns f) (replicate (byte_count ns - bytes_before ns f) 0)
