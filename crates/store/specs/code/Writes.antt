-- What is written into the buffers, by places: exactly these numbers and bytes, and no others.
use Rattle.std.specs.Prelude.{◌≡◌, List, [], ◌∷◌, ℕ, ◌+◌, ◌-◌, ◌*◌, length, replicate}
use Rattle.names.specs.Name.{long_name_most}
use Rattle.names.specs.Overwrite.{overwrite}
use Rattle.store.specs.Image.{contents_size, file_row, change_row, file_slot, row_with}
use Rattle.store.specs.code.Layout.{files_at}
use Rattle.store.specs.code.Rows.{rows_at, packed_at}

-- Row c and the bytes behind b.
pub record Appended (ns bs : List ℕ) (c b kind depth : ℕ) (text ns' bs' : List ℕ) : Type 0 where
  pub numbers : ns' ≡ overwrite ns (rows_at + change_row * c) (row_with kind depth (b + length text))
  pub bytes : bs' ≡ overwrite bs (packed_at + b) text

-- Zeros in the rows from c up to d, and in the change bytes from b up to e.
pub record Cleared (ns bs : List ℕ) (c d b e : ℕ) (ns' bs' : List ℕ) : Type 0 where
  pub numbers : ns' ≡ overwrite ns (rows_at + change_row * c) (replicate (change_row * (d - c)) 0)
  pub bytes : bs' ≡ overwrite bs (packed_at + b) (replicate (e - b) 0)

-- File f with its FileOID and date, its row and slot behind the others, and the contents with it.
pub record Closed (ns bs : List ℕ) (f : ℕ) (oid date : List ℕ) (c b : ℕ) (ns' bs' : List ℕ) : Type 0 where
  pub numbers : ns' ≡ overwrite (overwrite ns 0 ((f + 1) ∷ c ∷ b ∷ [])) (contents_size + file_row * f) (length oid ∷ c ∷ b ∷ [])
  pub bytes : bs' ≡ overwrite (overwrite bs (files_at + file_slot * f) oid) (files_at + file_slot * f + long_name_most) date

-- File f is the last no more: zeros in its row and slot, and the contents without it.
pub record Unfiled (ns bs : List ℕ) (f c b : ℕ) (ns' bs' : List ℕ) : Type 0 where
  pub numbers : ns' ≡ overwrite (overwrite ns 0 (f ∷ c ∷ b ∷ [])) (contents_size + file_row * f) (replicate file_row 0)
  pub bytes : bs' ≡ overwrite bs (files_at + file_slot * f) (replicate file_slot 0)
