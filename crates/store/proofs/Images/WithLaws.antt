-- What appending, clearing and filing make of the buffers of a machine with the changes of a file that is being added.
use mathlib.Core.Path.{◌≡◌, sym, ◌∙◌}
use mathlib.Core.Bool.{true}
use mathlib.Core.List.{List, [], ◌∷◌, ◌++◌, append-nil}
use Prim.Native.Nat.{ℕ, ◌+◌, ◌-◌, ◌≤◌, ◌<◌}
use native.Mathlib.Omega.{arith}
use lib.ListN.{length, length-append}
use Rattle.names.specs.Key.{depth_of}
use Rattle.store.specs.Change.{kind_number, Change, change_bytes, changes_bytes}
use Rattle.store.specs.Image.{change_rows, numbers_of, bytes_of}
use Rattle.store.specs.Machine.{Filed, Machine, changes_of, is_filed, obeys, files_most, changes_most, bytes_most}
use Rattle.store.specs.code.With.{With, filing}
use Rattle.store.specs.code.Writes.{Appended, Cleared, Closed}
use Rattle.store.proofs.Images.ImageParts.{numbers_more, bytes-more, numbers_cleared, bytes_cleared, numbers_filed, bytes_filed_apart, filing-numbers, filing-bytes}
use Rattle.store.proofs.Tables.OneChange.{changes_bytes-append}

-- The bytes of one change, and their length behind others.
one_change : (x : Change) → changes_bytes (x ∷ []) ≡ change_bytes x
unfolding changes_bytes
one_change x = append-nil (change_bytes x)

pub changes_bytes-joined : (cs ds : List Change) → length (changes_bytes (cs ++ ds)) ≡ length (changes_bytes cs) + length (changes_bytes ds)
changes_bytes-joined cs ds = rw (changes_bytes-append cs ds) (length-append (changes_bytes cs) (changes_bytes ds))

module _ (m : Machine) (o : obeys m ≡ true) (ns bs n' b' : List ℕ) where
  -- One more change.
  pub append-is : (cs : List Change) (x : Change) (c b kind depth : ℕ) (text : List ℕ)
      → With m cs ns bs c b → kind ≡ kind_number x.kind → depth ≡ depth_of x.key → text ≡ change_bytes x
      → c < changes_most → b + length text ≤ bytes_most → Appended ns bs c b kind depth text n' b'
      → With m (cs ++ x ∷ []) n' b' (c + 1) (b + length text)
  unfolding change_rows
  append-is cs x c b kind depth text w ek ed et hc hb a =
      let one = one_change x in
      let ec = w.changes in
      let eb = w.packed in
      let et2 : length text ≡ length (changes_bytes (x ∷ [])) = rw (et, one) in
      record {
        numbers =
            a.numbers
            ∙ rw (w.numbers, ec, eb, ek, ed, et) (sym (numbers_more m o cs (x ∷ []) (omega arith)));
        bytes = a.bytes ∙ rw (w.bytes, eb, et, ← one) (sym (bytes-more m o cs (x ∷ []) (omega arith)));
        changes = rw length-append (omega arith);
        packed = rw (changes_bytes-joined cs (x ∷ [])) (omega arith);
      }

  -- The last changes taken away.
  pub clear_is : (cs ds : List Change) (c d b e : ℕ)
      → With m (cs ++ ds) ns bs d e → c ≡ length cs → b ≡ length (changes_bytes cs) → d ≤ changes_most → e ≤ bytes_most
      → Cleared ns bs c d b e n' b' → With m cs n' b' c b
  clear_is cs ds c d b e w ec eb hd he k =
      let dd : d ≡ length cs + length ds = w.changes ∙ length-append cs ds in
      let ee : e ≡ length (changes_bytes cs) + length (changes_bytes ds) = w.packed ∙ changes_bytes-joined cs ds in
      let rows : d - c ≡ length ds = omega arith in
      let packed : e - b ≡ length (changes_bytes ds) = omega arith in
      record {
        numbers = k.numbers ∙ rw (w.numbers, rows, ec) (numbers_cleared m o cs ds (omega arith));
        bytes = k.bytes ∙ rw (w.bytes, packed, eb) (bytes_cleared m o cs ds (omega arith));
        changes = ec;
        packed = eb;
      }

  -- The changes filed: the buffers are the image of the machine with one more file.
  pub close_is : (ds : List Change) (f : ℕ) (oid date : List ℕ) (c b : ℕ)
      → With m (changes_of m.files ++ ds) ns bs c b → f ≡ length m.files → f < files_most
      → is_filed record { oid = oid; date = date; changes = ds } ≡ true
      → Closed ns bs f oid date c b n' b'
      → (n' ≡ numbers_of (filing m record { oid = oid; date = date; changes = ds })) × (b' ≡ bytes_of (filing m record { oid = oid; date = date; changes = ds }))
  close_is ds f oid date c b w ef hf formed k =
      let x : Filed = record { oid = oid; date = date; changes = ds } in
      let cs : List Change = changes_of m.files ++ ds in
      let room : length m.files < files_most = omega arith in (
        k.numbers ∙ rw (w.numbers, w.changes, w.packed, ef) (numbers_filed m o x room cs) ∙ filing-numbers m x,
        k.bytes ∙ rw (w.bytes, ef) (bytes_filed_apart m o x room cs formed) ∙ filing-bytes m x,
      )
