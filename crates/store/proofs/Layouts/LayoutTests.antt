-- The tests of the layout: its loops over files and rows, unused numbers and bytes, and what contents that fit say.
use mathlib.Core.Path.{◌≡◌, refl}
use mathlib.Core.Bool.{true, not}
use mathlib.Core.List.{List}
use Prim.Native.Nat.{ℕ, ◌≤◌}
use borrow.Author.Tests.{leb-true}
use Rattle.std.specs.List.{list_all}
use Rattle.names.specs.Order.{same}
use Rattle.names.proofs.Tests.{and_l, and_r}
use Rattle.store.specs.code.Layout.{file_count, change_count, byte_count, oid_at, new_oid, file_fits, files_fit, contents_fit}
use Rattle.store.specs.Machine.{files_most, changes_most, bytes_most}
use Rattle.store.proofs.Lists.FirstPlaces.{places_back, all_back, and_swap}

-- The tests of the first places, as an iterator that goes back over them answers.
pub new-all : (ns bs : List ℕ) (i n : ℕ) → list_all (λ m. not (same (oid_at ns bs i) (oid_at ns bs m))) (places_back n n) ≡ new_oid ns bs i n
unfolding new_oid
new-all ns bs i n = all_back (new_oid ns bs i) (λ m. not (same (oid_at ns bs i) (oid_at ns bs m))) refl (λ m. and_swap _ _) n

pub files-all : (ns bs : List ℕ) (n : ℕ) → list_all (file_fits ns bs) (places_back n n) ≡ files_fit ns bs n
unfolding files_fit
files-all ns bs n = all_back (files_fit ns bs) (file_fits ns bs) refl (λ m. refl) n

-- What contents that fit say.
module _ (ns : List ℕ) (fits : contents_fit ns ≡ true) where
  pub few-files : file_count ns ≤ files_most
  unfolding contents_fit
  few-files = leb-true _ _ (and_l _ _ fits)

  pub few-changes : change_count ns ≤ changes_most
  unfolding contents_fit
  few-changes = leb-true _ _ (and_l _ _ (and_r _ _ fits))

  pub few_bytes : byte_count ns ≤ bytes_most
  unfolding contents_fit
  few_bytes = leb-true _ _ (and_l _ _ (and_r _ _ (and_r _ _ fits)))

pub ruleset few = (few-files, few-changes, few_bytes)
