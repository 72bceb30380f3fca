-- The walk over the live index of a valid image.
use mathlib.Core.Path.{◌≡◌, sym, ◌∙◌, ap}
use mathlib.Core.Bool.{true}
use mathlib.Core.List.{List, [], ◌∷◌, ◌++◌}
use Prim.Native.Nat.{ℕ, ◌+◌, ◌-◌, ◌≤◌, ◌<◌, min}
use native.Mathlib.Omega.{arith}
use lib.ListN.{length, take, drop, get_or}
use lib.Seq.{length-take-le, get_or-take}
use borrow.Author.Tests.{leb-true}
use Rattle.names.specs.Name.{long_name_most}
use Rattle.names.proofs.Tests.{and_l}
use Rattle.names.proofs.Walk.{drop_here, drop_past}
use Rattle.store.specs.Image.{numbers_of, bytes_of, machine_in, study_length, version_length}
use Rattle.store.specs.code.Index.{table_at, ListedRows}
use Rattle.store.specs.code.Layout.{change_count, row_fits, slot_holds}
use Rattle.store.specs.Machine.{Machine, changes_of, changes_most, obeys}
use Rattle.store.specs.Outcomes.{buffers}
use Rattle.store.specs.code.Rows.{depth_at, entity_at, entities_at, first_changes}
use Rattle.store.specs.code.Withdrawal.{Valid}
use Rattle.store.proofs.Layouts.ImageLaid.{image-changes, image_laid}
use Rattle.store.proofs.Indexing.IndexLaws.{listing_long, listing_row}
use Rattle.store.proofs.Layouts.BuffersLaid.{LaidOut}
use Rattle.store.proofs.Layouts.RowFits.{RowFits, row-fits-at, row_fits_by, row-depth}
use Rattle.store.proofs.Images.Rules.{rules_of}
use Rattle.store.proofs.Calls.WithdrawLaws.{read-numbers, read-bytes, read-obeys}
use Rattle.snapshot.specs.declared.writer.Output.{Output}
use Rattle.snapshot.specs.code.Writing.{Put, own_names_of, row_text, closing_text, entities_text}
use Rattle.snapshot.proofs.Emits.{put_as, Remains, remains_then, remains_last}
use Rattle.snapshot.proofs.TagTexts.{entities-more, entities_none}

-- What a valid image says by places.
module _ (ns bs : List ℕ) (v : Valid ns bs) where
  laid : LaidOut ns bs
  laid = by (machine_in (buffers ns bs)) (read-obeys ns bs v) (read-numbers ns bs v) (read-bytes ns bs v)
    where
      by : (m : Machine) → obeys m ≡ true → ns ≡ numbers_of m → bs ≡ bytes_of m → LaidOut ns bs
      by m o p q = rw (p, q) (image_laid m (rules_of m o))

  pub valid-changes : first_changes ns bs (change_count ns) ≡ changes_of (machine_in (buffers ns bs)).files
  valid-changes = by (machine_in (buffers ns bs)) (read-obeys ns bs v) (read-numbers ns bs v) (read-bytes ns bs v)
    where
      by : (m : Machine) → obeys m ≡ true → ns ≡ numbers_of m → bs ≡ bytes_of m → first_changes ns bs (change_count ns) ≡ changes_of m.files
      by m o p q = rw (p, q) (image-changes m (rules_of m o))

  pub study-length : study_length ns ≤ long_name_most
  unfolding slot_holds
  study-length = leb-true _ _ (and_l _ _ laid.study)

  pub version-length : version_length ns ≤ long_name_most
  unfolding slot_holds
  version-length = leb-true _ _ (and_l _ _ laid.version)

module _ (ns bs index : List ℕ) (n : ℕ) (v : Valid ns bs) (x : ListedRows (change_count ns) index n) where
  row_at : (i : ℕ) → i < n → RowFits ns bs (get_or index i 0)
  row_at i h = row-fits-at ns bs (change_count ns) (get_or index i 0) (laid ns bs v).rows (listing_row (change_count ns) index n x i h)

  listed : length (take n index) ≡ n
  listed = length-take-le n index (listing_long (change_count ns) index n x)

  -- r is row i of those that are listed.
  module _ (i r : ℕ) (e : r ≡ get_or (take n index) i 0) (h : i < length (take n index)) where
    below : i < n
    below = rw listed at h

    is-row : r ≡ get_or index i 0
    is-row = e ∙ get_or-take n index i 0 below

    pub live-fits : row_fits ns bs r ≡ true
    live-fits = rw is-row (row_fits_by ns bs (get_or index i 0) (row_at i below))

    pub live-few : r < changes_most
    live-few = let a = listing_row (change_count ns) index n x i below in let b = (laid ns bs v).few-changes in let e = is-row in omega arith

    row_here_lem : drop i (take n index) ≡ r ∷ drop (i + 1) (take n index)
    row_here_lem = drop_here (take n index) i h ∙ rw e

  -- One entity after another.
  here : (o i r : ℕ) → r ≡ get_or (take n index) i 0 → i < length (take n index)
      → entities_text o (entities_at ns bs (drop i (take n index)))
      ≡ closing_text o (depth_at ns r - 1) ++ row_text ns bs r ++ entities_text (min (depth_at ns r) 4) (entities_at ns bs (drop (i + 1) (take n index)))
  unfolding entities_at row_text own_names_of
  here o i r e h =
      let f : RowFits ns bs r = rw (is-row i r e h) (row_at i (below i r e h)) in
      rw (row_here_lem i r e h)
      (entities-more o (entity_at ns bs r) (entities_at ns bs (drop (i + 1) (take n index))) (depth_at ns r) (row-depth ns bs v.bytes r f) f.depth_low)

  module _ (o : Output) where
    pub walk_more : (k i r m : ℕ) (p q : Output) → Remains o p (entities_text 0 (table_at ns bs index n)) (entities_text k (entities_at ns bs (drop i (take n index))))
        → i < length (take n index) → r ≡ get_or (take n index) i 0 → Put p q (closing_text k (depth_at ns r - 1) ++ row_text ns bs r) → m ≡ min (depth_at ns r) 4
        → Remains o q (entities_text 0 (table_at ns bs index n)) (entities_text m (entities_at ns bs (drop (i + 1) (take n index))))
    walk_more k i r m p q a h e w g =
        rw g
        (remains_then o p q (entities_text 0 (table_at ns bs index n)) (closing_text k (depth_at ns r - 1) ++ row_text ns bs r)
        (entities_text (min (depth_at ns r) 4) (entities_at ns bs (drop (i + 1) (take n index)))) (entities_text k (entities_at ns bs (drop i (take n index)))) (here k i r e h) a w)

    pub walk_end : (k i : ℕ) (p q : Output) → Remains o p (entities_text 0 (table_at ns bs index n)) (entities_text k (entities_at ns bs (drop i (take n index)))) → length (take n index) ≤ i
        → Put p q (closing_text k 0) → Put o q (entities_text 0 (table_at ns bs index n))
    unfolding entities_at
    walk_end k i p q a h w =
        let none_left : drop i (take n index) ≡ [] = drop_past (take n index) i h in
        let t : closing_text k 0 ≡ entities_text k (entities_at ns bs (drop i (take n index))) = sym (ap (λ (s : List ℕ). entities_text k (entities_at ns bs s)) none_left ∙ entities_none k) in
        remains_last o p q (entities_text 0 (table_at ns bs index n)) (entities_text k (entities_at ns bs (drop i (take n index)))) a (put_as p q (closing_text k 0) _ t w)

pub ruleset live-rows = (live-fits, live-few)

pub ruleset walking-entities = (walk_more, walk_end)
