-- The changes of a list by places, where their rows and their bytes stand in two buffers: each row fits and holds its change.
use mathlib.Core.Path.{◌≡◌, refl, sym, ap, ◌∙◌}
use mathlib.Core.Bool.{true}
use mathlib.Core.List.{List, [], ◌∷◌, ◌++◌, append_assoc}
use mathlib.Core.Option.{some}
use Prim.Native.Nat.{ℕ, ◌+◌, ◌-◌, ◌*◌, ◌≤◌}
use native.Mathlib.Omega.{arith}
use lib.ListN.{length, drop, get_or, length-append}
use lib.Seq.{drop_at, drop-drop, take-append_seam, drop-append_seam}
use Rattle.names.specs.Bytes.{all}
use Rattle.names.specs.Key.{is_key, depth_of, names_used, packed}
use Rattle.names.specs.code.HeldKey.{read_key}
use Rattle.names.specs.Pick.{pick}
use Rattle.names.proofs.Tests.{and_l, all_head, all_right}
use Rattle.store.specs.Change.{Kind, make, write, end, kind_number, Change, is_change, change_bytes, changes_bytes}
use Rattle.store.specs.Image.{change_row, change_rows, kind_of, change_in, row_numbers}
use Rattle.store.specs.code.Layout.{row_bytes, row_fits, rows_fit}
use Rattle.store.specs.Machine.{bytes_most}
use Rattle.store.specs.code.Rows.{rows_at, packed_at, kind_at, depth_at, end_at, start_at, key_start, key_at, value_at, change_at, first_changes}
use Rattle.store.proofs.Lists.Appending.{size-before, first-placed}
use Rattle.store.proofs.Images.ImageLaws.{change-read}
use Rattle.store.proofs.Lists.RowPlaces.{row_number_lem}
use Rattle.store.proofs.Layouts.RowFits.{row_fits_by, start-next}
use Rattle.store.proofs.Images.RowLaws.{change_rows-append, change_rows-length}
use Rattle.store.proofs.Tables.OneChange.{changes_bytes-append}
use Rattle.store.proofs.Images.NumbersFit.{kind-most}
use Rattle.names.proofs.KeyPacked.{names-packed, read-packed}
use Rattle.names.proofs.KeyForm.{key_used, key_fits, deepest, key-depth}

kind-low : (k : Kind) → 1 ≤ kind_number k
unfolding kind_number
kind-low make = omega arith
kind-low write = omega arith
kind-low end = omega arith

kind-read : (c : Change) → is_change c ≡ true → kind_of (kind_number c.kind) ≡ c.kind
unfolding change_in
kind-read c e = ap (λ (x : Change). x.kind) (change-read c e)

pub change-key : (c : Change) → is_change c ≡ true → is_key c.key ≡ true
unfolding is_change
change-key c e = and_l _ _ e

key-read : (c : Change) → is_change c ≡ true → read_key (names_used (depth_of c.key)) (change_bytes c) ≡ some record { key = c.key; rest = c.value }
unfolding change_bytes
key-read c e =
    let key = change-key c e in
    rw (key_used c.key key, read-packed c.key c.value (key_fits c.key key))

bytes_of_parts : (xs ys : List Change) (c : Change)
    → length (changes_bytes (xs ++ c ∷ ys)) ≡ length (changes_bytes xs) + (length (change_bytes c) + length (changes_bytes ys))
unfolding changes_bytes
bytes_of_parts xs ys c = rw (changes_bytes-append xs (c ∷ ys), length-append, length-append)

-- Rows and bytes of cs stand in the buffers, whatever stands behind them.
module _ (ns bs : List ℕ) (cs : List Change) (rows_behind bytes-behind : List ℕ)
    (rows : drop rows_at ns ≡ change_rows 0 cs ++ rows_behind) (bytes : drop packed_at bs ≡ changes_bytes cs ++ bytes-behind) where
  row-placed : (xs ys : List Change) (c : Change) → cs ≡ xs ++ c ∷ ys
      → drop (change_row * length xs) (drop rows_at ns)
      ≡ row_numbers (length (changes_bytes xs)) c ++ (change_rows (length (changes_bytes xs) + length (change_bytes c)) ys ++ rows_behind)
  unfolding change_rows
  row-placed xs ys c e =
      let z : 0 + length (changes_bytes xs) ≡ length (changes_bytes xs) = omega arith in
      rw (rows, e, change_rows-append 0 xs (c ∷ ys), z, append_assoc)
      (drop_at (change_rows 0 xs) _ (change_row * length xs) (change_rows-length 0 xs))

  module _ (xs ys : List Change) (c : Change) (e : cs ≡ xs ++ c ∷ ys) where
    pub placed-kind : kind_at ns (length xs) ≡ kind_number c.kind
    placed-kind = sym (row_number_lem ns (length xs) 0) ∙ ap (λ (l : List ℕ). get_or l 0 0) (row-placed xs ys c e)

    pub placed-depth : depth_at ns (length xs) ≡ depth_of c.key
    placed-depth = sym (row_number_lem ns (length xs) 1) ∙ ap (λ (l : List ℕ). get_or l 1 0) (row-placed xs ys c e)

    pub placed_end : end_at ns (length xs) ≡ length (changes_bytes xs) + length (change_bytes c)
    placed_end = sym (row_number_lem ns (length xs) 2) ∙ ap (λ (l : List ℕ). get_or l 2 0) (row-placed xs ys c e)

  pub placed-start : (xs ys : List Change) → cs ≡ xs ++ ys → start_at ns (length xs) ≡ length (changes_bytes xs)
  placed-start =
      size-before (start_at ns) (λ xs. length (changes_bytes xs)) cs (unfold start_at pick changes_bytes in refl)
      (λ xs ys c e.
      let b : length (changes_bytes (xs ++ c ∷ [])) ≡ length (changes_bytes xs) + length (change_bytes c) =
      bytes_of_parts xs [] c ∙ (unfold changes_bytes in omega arith) in
      rw (start-next ns (length xs), b) (placed_end xs ys c e))

  module _ (xs ys : List Change) (c : Change) (e : cs ≡ xs ++ c ∷ ys) where
    placed_from : drop (packed_at + start_at ns (length xs)) bs ≡ change_bytes c ++ (changes_bytes ys ++ bytes-behind)
    unfolding changes_bytes
    placed_from =
        rw (placed-start xs (c ∷ ys) e, ← drop-drop (length (changes_bytes xs)) packed_at bs, bytes, e, changes_bytes-append xs (c ∷ ys), append_assoc, append_assoc)
        (drop-append_seam (changes_bytes xs) (change_bytes c ++ (changes_bytes ys ++ bytes-behind)))

    placed-length : end_at ns (length xs) - start_at ns (length xs) ≡ length (change_bytes c)
    placed-length = rw (placed_end xs ys c e, placed-start xs (c ∷ ys) e) (omega arith)

    placed-bytes : row_bytes ns bs (length xs) ≡ change_bytes c
    unfolding row_bytes
    placed-bytes = rw (placed_from, placed-length) (take-append_seam (change_bytes c) (changes_bytes ys ++ bytes-behind))

    module _ (formed : is_change c ≡ true) where
      placed-key : key_at ns bs (length xs) ≡ c.key
      unfolding key_at key_start change_bytes
      placed-key =
          rw (placed-depth xs ys c e, placed_from, key_used c.key (change-key c formed), append_assoc)
          (names-packed c.key (c.value ++ (changes_bytes ys ++ bytes-behind)))

      placed-value : value_at ns bs (length xs) ≡ c.value
      unfolding value_at key_start change_bytes
      placed-value =
          let p : ℕ = length (packed c.key) in
          let w : length (change_bytes c) - p ≡ length c.value = omega (arith, length-append (packed c.key) c.value) in
          rw (
            placed-key,
            placed-length,
            w,
            ← drop-drop p (packed_at + start_at ns (length xs)) bs,
            placed_from,
            append_assoc,
            drop-append_seam (packed c.key),
          )
          (take-append_seam c.value (changes_bytes ys ++ bytes-behind))

      pub placed-change : change_at ns bs (length xs) ≡ c
      placed-change = rw (placed-kind xs ys c e, kind-read c formed, placed-key, placed-value)

      pub placed-fits : length (changes_bytes cs) ≤ bytes_most → row_fits ns bs (length xs) ≡ true
      placed-fits few =
          let size : length (changes_bytes cs) ≡ length (changes_bytes xs) + (length (change_bytes c) + length (changes_bytes ys)) = rw e (bytes_of_parts xs ys c) in
          row_fits_by ns bs (length xs) record {
            kind-low = rw (placed-kind xs ys c e) (kind-low c.kind);
            kind-high = rw (placed-kind xs ys c e) (kind-most c.kind);
            depth_low = rw (placed-depth xs ys c e) (key-depth c.key (change-key c formed)).0;
            depth-high = rw (placed-depth xs ys c e) (deepest c.key);
            order = rw (placed_end xs ys c e, placed-start xs (c ∷ ys) e) (omega arith);
            end-high = rw (placed_end xs ys c e) (omega arith);
            read = record { key = c.key; rest = c.value };
            whole = rw (placed-depth xs ys c e, placed-bytes) (key-read c formed);
            formed = rw placed-change formed;
          }

  -- The first changes by places are the first of the list, and their rows fit.
  pub changes-placed : all is_change cs ≡ true → length (changes_bytes cs) ≤ bytes_most → (xs ys : List Change) → cs ≡ xs ++ ys
      → (rows_fit ns bs (length xs) ≡ true) × (first_changes ns bs (length xs) ≡ xs)
  unfolding rows_fit first_changes
  changes-placed formed few =
      first-placed (rows_fit ns bs) (row_fits ns bs) (first_changes ns bs) (change_at ns bs) cs refl (λ n. refl) refl (λ n. refl)
      (λ xs ys c e _.
      let this : is_change c ≡ true = all_head is_change c ys (all_right is_change xs (c ∷ ys) (rw e at formed)) in
      (placed-fits xs ys c e this few, placed-change xs ys c e this))
