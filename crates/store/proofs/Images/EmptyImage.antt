-- The empty image, as Open writes it over anything.
use mathlib.Core.Path.{◌≡◌, refl, sym, ◌∙◌}
use mathlib.Core.Bool.{true}
use mathlib.Core.List.{List, [], ◌++◌, append_assoc, append-nil}
use Prim.Native.Nat.{ℕ, ◌+◌, ◌-◌, ◌*◌, ◌≤◌}
use native.Mathlib.Omega.{arith}
use lib.ListN.{length, set, replicate, length-replicate, replicate-append-replicate, drop_of_length-le}
use Rattle.names.specs.Name.{long_name_most, is_long_name}
use Rattle.names.specs.Overwrite.{overwrite}
use Rattle.names.specs.code.Wrote.{Wrote}
use Rattle.store.specs.Calls.{right_lengths, open_call}
use Rattle.store.specs.Change.{changes_bytes}
use Rattle.store.specs.Image.{file_row, change_row, file_slot, numbers_size, bytes_size, padded, change_rows, file_rows, file_slots, numbers_of, bytes_of, Buffers, image, contents_of, contents_size, study_at, version_at}
use Rattle.store.specs.Machine.{files_most, changes_most, bytes_most, changes_of, empty}
use Rattle.store.proofs.Lists.FilledParts.{padded-length, padded-more, overwrite-second}
use Rattle.store.proofs.Calls.OpenLaws.{open_study, open_version, open_accepted, right_lengths_lem}
use Rattle.store.proofs.Images.Rules.{long-name-length}

-- Zeros over all of a buffer.
all_cleared : (d : List ℕ) (n : ℕ) → length d ≡ n → overwrite d 0 (replicate n 0) ≡ replicate n 0
unfolding overwrite
all_cleared d n h =
    let e : length d ≤ 0 + length {A = ℕ} (replicate n 0) = rw length-replicate (omega arith) in
    rw (drop_of_length-le d e, append-nil)

-- Zeros, as the parts of both buffers have them where there is nothing.
padded_none : (n : ℕ) → padded n [] ≡ replicate n 0
unfolding padded
padded_none n = let e : n - 0 ≡ n = omega arith in rw e

two_paddings : (a b : ℕ) → padded a [] ++ padded b [] ≡ replicate (a + b) 0
two_paddings a b = rw (padded_none a, padded_none b) (replicate-append-replicate {A = ℕ} a b 0)

contents-set : (n : ℕ) (study version : List ℕ)
    → set (set (replicate (contents_size + n) 0) study_at (length study)) version_at (length version) ≡ contents_of (empty study version) ++ replicate n 0
unfolding empty changes_of changes_bytes
contents-set n study version = rw (← replicate-append-replicate {A = ℕ} contents_size n 0)

slots_set : (n k : ℕ) (s t : List ℕ) → length s ≤ n → length t ≤ n
    → overwrite (overwrite (replicate (n + (n + k)) 0) 0 s) n t ≡ padded n s ++ padded n t ++ replicate k 0
slots_set n k s t h l =
    let z : List ℕ = padded n [] in
    let zl : length z ≡ n = padded-length n [] (omega arith) in
    let parts : replicate (n + (n + k)) 0 ≡ z ++ (z ++ replicate k 0) =
    rw (padded_none n, replicate-append-replicate {A = ℕ} n k 0) (sym (replicate-append-replicate {A = ℕ} n (n + k) 0)) in
    let first : overwrite (z ++ (z ++ replicate k 0)) 0 s ≡ padded n s ++ z ++ replicate k 0 =
    overwrite-second [] z (z ++ replicate k 0) 0 0 s refl (omega arith) ∙ rw (← padded-more n [] s h) (sym (append_assoc (padded n s) z (replicate k 0))) in
    let e : n + 0 ≡ n = omega arith in
    rw (parts, first) (rw e at (overwrite-second (padded n s) z (replicate k 0) n 0 t (padded-length n s h) (omega arith)) ∙ rw (← padded-more n [] t l))

module _ (d : List ℕ) (study version : List ℕ) where
  pub numbers-empty : (x : List ℕ) → length d ≡ numbers_size → x ≡ overwrite d 0 (replicate (numbers_size - 0) 0)
      → set (set x study_at (length study)) version_at (length version) ≡ numbers_of (empty study version)
  unfolding numbers_of empty file_rows change_rows changes_of changes_bytes
  numbers-empty x h e =
      rw (e, all_cleared d numbers_size h, contents-set (files_most * file_row + changes_most * change_row) study version)
      (rw (← two_paddings (files_most * file_row) (changes_most * change_row)) refl)

  pub bytes-empty : (x y z : List ℕ) (a b : ℕ) → length d ≡ bytes_size → length study ≤ long_name_most → length version ≤ long_name_most
      → x ≡ overwrite d 0 (replicate (bytes_size - 0) 0) → Wrote x 0 study y a → Wrote y long_name_most version z b → z ≡ bytes_of (empty study version)
  unfolding bytes_of empty file_slots changes_of changes_bytes
  bytes-empty x y z a b h l k e u v =
      v.text
      ∙ rw (u.text, e, all_cleared d bytes_size h, slots_set long_name_most (files_most * file_slot + bytes_most) study version l k)
      (rw (← two_paddings (files_most * file_slot) bytes_most) (sym (append_assoc (padded long_name_most study ++ padded long_name_most version) _ _)))

pub ruleset emptied = (numbers-empty, bytes-empty)

pub image-empty : (n' b' study version : List ℕ) → n' ≡ numbers_of (empty study version) → b' ≡ bytes_of (empty study version)
    → record { numbers = n'; bytes = b' } ≡ image (empty study version)
unfolding image
image-empty n' b' study version p q = rw (p, q)

-- Open is accepted.
pub open_done : (b b' : Buffers) (study version : List ℕ) → right_lengths b ≡ true → true ≡ is_long_name study → true ≡ is_long_name version
    → b' ≡ image (empty study version) → record { refusal = 0; count = 0; buffers = b' } ≡ open_call b study version
open_done b b' study version l s v e = rw e (open_accepted b study version l (sym s) (sym v))

pub ruleset opening = (open_study, open_version, open_done, right_lengths_lem, long-name-length)
