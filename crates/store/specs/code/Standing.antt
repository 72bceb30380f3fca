-- What the series asks of the standing files.
use Rattle.std.specs.Prelude.{Bool, true, false, List, ◌≡◌, ℕ, ◌≤◌, ◌<◌, length}
use Rattle.std.proofs.Math.Option.{Option, none, some}
use Rattle.names.specs.Date.{not_later}
use Rattle.names.specs.Name.{long_name_most}
use Rattle.names.specs.Order.{same}
use Rattle.store.specs.Image.{numbers_size, bytes_size}
use Rattle.store.specs.code.Layout.{oid_length}
use Rattle.store.specs.Machine.{Filed, files_most}

-- A FileOID is the last standing one; a date is not before the last kept one.
unfoldable pub is_last : List ℕ → Option Filed → Bool
is_last oid none = false
is_last oid (some f) = same oid f.oid

unfoldable pub not_before : Option Filed → List ℕ → Bool
not_before none d = true
not_before (some f) d = not_later f.date d

-- File f stands: its row and its slot may be read.
pub record FileStands (ns bs : List ℕ) (f : ℕ) : Type 0 where
  pub numbers : length ns ≡ numbers_size
  pub bytes : length bs ≡ bytes_size
  pub few : f < files_most
  pub oid : oid_length ns f ≤ long_name_most
