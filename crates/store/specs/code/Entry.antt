-- The bytes of one change, and the sizes of the changes' keys. Contracts of inner functions cite it.
use Rattle.std.specs.Prelude.{◌≡◌, Bool, true, false, List, [], ◌∷◌, ℕ, ◌+◌, ◌-◌, ◌≤◌, ◌<◌, leb, length, take, drop, get_or, Option as Found, Some, None}
use Rattle.std.proofs.Math.Option.{Option, none, some}
use Rattle.names.specs.Key.{Name, Key, names_used, packed}
use Rattle.names.specs.code.HeldKey.{packed_most, KeyRead, read_key}
use Rattle.names.specs.Pick.{pick, ◌and◌}
use Rattle.store.specs.Change.{is_change}
use Rattle.store.specs.Image.{change_in}
use Rattle.store.specs.code.Layout.{is_whole}
use Rattle.store.specs.Machine.{changes_most, bytes_most}
use Rattle.store.specs.code.Rows.{packed_at, key_at}

-- As many names as a depth uses.
pub record IsUsed (n : ℕ) : Type 0 where
  pub depth : ℕ
  pub low : 1 ≤ depth
  pub high : depth ≤ 5
  pub count : n ≡ names_used depth

-- What stands behind a packed name, if it is whole and passes the test.
unfoldable pub after_name : (Name → Bool) → List ℕ → Option (List ℕ)
after_name p [] = none
after_name p (l ∷ s) = pick (leb l (length s) and p (take l s)) (some (drop l s)) none

-- What stands behind packed names, if they are whole and pass the test.
unfoldable pub after_key : (Key → Bool) → Option KeyRead → Option (List ℕ)
after_key p none = none
after_key p (some r) = pick (p r.key) (some r.rest) none

-- The bytes of a change of this kind and depth: its key's names are whole, and it is of its form.
unfoldable pub entry_fits : ℕ → ℕ → List ℕ → Bool
entry_fits kind depth s = is_whole (read_key (names_used depth) s) and is_change (change_in kind depth s)

-- What a row says, and its bytes.
unfoldable pub change_fits : ℕ → ℕ → ℕ → ℕ → List ℕ → Bool
change_fits kind depth start end bs =
    leb 1 kind
    and leb kind 3
    and leb 1 depth
    and leb depth 5
    and leb start end
    and leb end bytes_most
    and entry_fits kind depth (take (end - start) (drop (packed_at + start) bs))

-- The answer for a change that fits or not, with this key: the size of the key, if it fits.
abbrev pub SizeIfFits : Bool → Key → Found ℕ → Type 0
SizeIfFits fits key None = fits ≡ false
SizeIfFits fits key (Some n) = (fits ≡ true) × (n ≡ length (packed key)) × (n ≤ packed_most)

-- The sizes of the keys of the rows from one on, up to before another.
pub record Sized (ns bs : List ℕ) (from to : ℕ) (sizes : List ℕ) : Type 0 where
  pub room : length sizes ≡ changes_most
  pub each : (i : ℕ) → from ≤ i → i < to → get_or sizes i 0 ≡ length (packed (key_at ns bs i))

-- The answer of a test, and if it is passed, the sizes of the keys of the first n rows.
pub record Measured (ns bs : List ℕ) (n : ℕ) (sizes : List ℕ) (test r : Bool) : Type 0 where
  pub says : r ≡ test
  pub sized : r ≡ true → Sized ns bs 0 n sizes
