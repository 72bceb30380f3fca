-- What Open answers, case by case, and what it leaves.
use mathlib.Core.Path.{◌≡◌}
use mathlib.Core.Bool.{Bool, true, false}
use mathlib.Core.List.{List}
use mathlib.Core.Option.{none, some}
use Prim.Native.Nat.{ℕ}
use lib.ListN.{length}
use borrow.Author.Tests.{eq-eqb, ne_eqb}
use Rattle.names.specs.Bytes.{all}
use Rattle.names.specs.Name.{is_long_name}
use Rattle.names.specs.Pick.{◌and◌}
use Rattle.store.specs.Answer.{refused, accepted, ◌>>=◌, ◌>>◌, unless, present}
use Rattle.store.specs.Calls.{outcome, right_lengths, opened, open_empty, open_call}
use Rattle.store.specs.Change.{changes_bytes}
use Rattle.store.specs.Machine.{Machine, changes_of, distinct, never_fall, in_turn, obeys, empty}
use Rattle.store.specs.Image.{numbers_size, bytes_size, Buffers, image, read_image}

pub unless_held : (t : Bool) (n : ℕ) → t ≡ true → accepted tt ≡ unless t n
unfolding unless
unless_held t n e = rw e

pub unless_failed : (t : Bool) (n : ℕ) → t ≡ false → refused n ≡ unless t n
unfolding unless
unless_failed t n e = rw e

-- "1 a store buffer of another length"
module _ (b : Buffers) where
  pub wrong_numbers : (length b.numbers ≡ numbers_size → ⊥) → right_lengths b ≡ false
  unfolding right_lengths ◌and◌
  wrong_numbers h = rw (ne_eqb (length b.numbers) numbers_size h)

  pub wrong_bytes : length b.numbers ≡ numbers_size → (length b.bytes ≡ bytes_size → ⊥) → right_lengths b ≡ false
  unfolding right_lengths ◌and◌
  wrong_bytes h k = rw (eq-eqb (length b.numbers) numbers_size h, ne_eqb (length b.bytes) bytes_size k)

  pub right_lengths_lem : length b.numbers ≡ numbers_size → length b.bytes ≡ bytes_size → right_lengths b ≡ true
  unfolding right_lengths ◌and◌
  right_lengths_lem h k = rw (eq-eqb (length b.numbers) numbers_size h, eq-eqb (length b.bytes) bytes_size k)

  -- "Checks 1, 2": of every call but Open.
  pub opened_wrong : right_lengths b ≡ false → opened b ≡ refused 1
  unfolding opened unless ◌>>◌ ◌>>=◌
  opened_wrong e = rw e

  -- The same by what `buffers_sized` says.
  pub opened_unsized : (n : ℕ) → refused n ≡ unless (right_lengths b) 1 → opened b ≡ refused n
  unfolding opened ◌>>◌ ◌>>=◌
  opened_unsized n e = rw (← e)

  pub opened_none : right_lengths b ≡ true → read_image b ≡ none → opened b ≡ refused 2
  unfolding opened unless present ◌>>◌ ◌>>=◌
  opened_none e f = rw (e, f)

  pub opened_some : (m : Machine) → right_lengths b ≡ true → read_image b ≡ some m → opened b ≡ accepted m
  unfolding opened unless present ◌>>◌ ◌>>=◌
  opened_some m e f = rw (e, f)

-- Open: refused with 1, refused with 7, accepted.
module _ (b : Buffers) (study version : List ℕ) where
  pub open_unsized : (n : ℕ) → refused n ≡ unless (right_lengths b) 1 → record { refusal = n; count = 0; buffers = b } ≡ open_call b study version
  unfolding open_call open_empty outcome ◌>>◌ ◌>>=◌
  open_unsized n e = rw (← e)

  pub open_study : right_lengths b ≡ true → is_long_name study ≡ false → record { refusal = 7; count = 0; buffers = b } ≡ open_call b study version
  unfolding open_call open_empty outcome unless ◌and◌ ◌>>◌ ◌>>=◌
  open_study e f = rw (e, f)

  pub open_version : right_lengths b ≡ true → is_long_name study ≡ true → is_long_name version ≡ false
      → record { refusal = 7; count = 0; buffers = b } ≡ open_call b study version
  unfolding open_call open_empty outcome unless ◌and◌ ◌>>◌ ◌>>=◌
  open_version e f g = rw (e, f, g)

  pub open_accepted : right_lengths b ≡ true → is_long_name study ≡ true → is_long_name version ≡ true
      → record { refusal = 0; count = 0; buffers = image (empty study version) } ≡ open_call b study version
  unfolding open_call open_empty outcome unless ◌and◌ ◌>>◌ ◌>>=◌
  open_accepted e f g = rw (e, f, g)

-- What Open leaves obeys the rules.
pub obeys-empty : (study version : List ℕ) → is_long_name study ≡ true → is_long_name version ≡ true → obeys (empty study version) ≡ true
unfolding obeys empty all distinct never_fall changes_of changes_bytes in_turn ◌and◌
obeys-empty study version e f = rw (e, f)
