-- What the rows of an image point to: the place of a key, and how many names it has.
use mathlib.Core.Path.{◌≡◌, sym, ◌∙◌}
use mathlib.Core.List.{List}
use Prim.Native.Nat.{ℕ, ◌+◌, ◌≤◌, ◌<◌}
use native.Mathlib.Omega.{arith}
use lib.ListN.{length, drop}
use Rattle.names.proofs.Walk.{drop_past}
use Rattle.store.specs.Image.{bytes_size}
use Rattle.store.specs.Machine.{bytes_most}
use Rattle.store.specs.code.Rows.{packed_at, start_at, key_start}

-- A row that points within the buffer, and one that points beyond it.
module _ (ns bs : List ℕ) (r start : ℕ) (e : start ≡ start_at ns r) where
  pub key-within : drop (packed_at + start) bs ≡ drop (packed_at + key_start ns r) bs
  unfolding key_start
  key-within = rw e

  pub key-beyond : length bs ≡ bytes_size → bytes_most < start → drop bytes_size bs ≡ drop (packed_at + key_start ns r) bs
  unfolding key_start
  key-beyond l h =
      let a : length bs ≤ bytes_size = omega arith in
      let b : length bs ≤ packed_at + key_start ns r = omega arith in
      drop_past bs bytes_size a ∙ sym (drop_past bs (packed_at + key_start ns r) b)

pub ruleset key-places = (key-within, key-beyond)
