-- A machine that obeys the rules is read back from its image, and an image is read as the machine that has it.
use mathlib.Core.Path.{◌≡◌, refl}
use mathlib.Core.Bool.{Bool, true, false}
use mathlib.Core.List.{List, [], ◌∷◌, ◌++◌, append_assoc, append-nil}
use mathlib.Core.Option.{Option, none, some}
use Prim.Native.Nat.{ℕ, ◌+◌, ◌-◌, ◌*◌}
use native.Mathlib.Omega.{arith}
use lib.ListN.{length, take, drop, replicate, length-append}
use lib.Seq.{drop_at, take-append_seam, drop-append_seam}
use Rattle.names.specs.Bytes.{all}
use Rattle.names.specs.Date.{date_size}
use Rattle.names.specs.Key.{depth_of}
use Rattle.names.specs.Name.{long_name_most}
use Rattle.names.specs.Order.{same}
use Rattle.names.specs.Pick.{pick, ◌and◌}
use Rattle.names.proofs.Ordered.{same_eq, same_refl}
use Rattle.names.proofs.Tests.{and_l, and_r}
use Rattle.store.specs.Change.{Kind, make, write, end, kind_number, Change, is_change, change_bytes, changes_bytes}
use Rattle.store.specs.Machine.{Filed, Machine, changes_of, is_filed, obeys, files_most, changes_most, bytes_most}
use Rattle.store.specs.Image.{file_row, change_row, file_slot, padded, change_rows, file_rows, file_slots, numbers_of, bytes_of, Buffers, image, kind_of, change_in, changes_in, files_in, machine_in, read_image, contents_of}
use Rattle.store.proofs.Lists.FilledParts.{padded-length, padded-text}
use Rattle.store.proofs.Images.Arrangement.{file_rows_part, change_rows_part, slots_part, change_bytes_part, file_rows_part-length, slots_part-length}
use Rattle.store.proofs.Images.RowLaws.{slot-length, kept_read}
use Rattle.store.proofs.Images.Rules.{rules_of, long-name-length, filed_oid, filed_dated}
use Rattle.store.proofs.Tables.InTurn.{in_turn-changes}
use Rattle.names.proofs.KeyPacked.{names-packed}
use Rattle.names.proofs.KeyForm.{key_used}

kind-read : (k : Kind) → kind_of (kind_number k) ≡ k
unfolding kind_of kind_number pick
kind-read make = refl
kind-read write = refl
kind-read end = refl

pub change-read : (c : Change) → is_change c ≡ true → change_in (kind_number c.kind) (depth_of c.key) (change_bytes c) ≡ c
unfolding change_in change_bytes is_change
change-read c e = rw (kind-read c.kind, key_used c.key (and_l _ _ e), names-packed c.key c.value, drop-append_seam)

pub changes-read : (cs : List Change) (start : ℕ) (rows s : List ℕ) → all is_change cs ≡ true
    → changes_in (length cs) start (change_rows start cs ++ rows) (changes_bytes cs ++ s) ≡ cs
unfolding changes_in change_rows changes_bytes all
changes-read [] start rows s e = refl
changes-read (c ∷ cs) start rows s e =
    let n = length (change_bytes c) in
    let d : start + n - start ≡ n = omega arith in
    rw (append_assoc (change_bytes c) (changes_bytes cs) s, d, take-append_seam, drop-append_seam, change-read c (and_l _ _ e), changes-read cs (start + n) rows s (and_r (is_change c) _ e))

pub files-read : (fs : List Filed) (through bytes : ℕ) (rows slots : List ℕ) (cs : List Change) → all is_filed fs ≡ true
    → files_in (length fs) through (file_rows through bytes fs ++ rows) (file_slots fs ++ slots) (changes_of fs ++ cs) ≡ fs
unfolding files_in file_rows file_slots changes_of all
files-read [] through bytes rows slots cs e = refl
files-read (f ∷ fs) through bytes rows slots cs e =
    let n = length f.changes in
    let w = length (changes_bytes f.changes) in
    let oid : List ℕ = padded long_name_most f.oid in
    let rest : List ℕ = file_slots fs ++ slots in
    let formed : is_filed f ≡ true = and_l _ _ e in
    let date : List ℕ = padded date_size f.date in
    let here : oid ++ date ++ file_slots fs ++ slots ≡ oid ++ (date ++ rest) = simp append_assoc in
    let d : through + n - through ≡ n = omega arith in
    let behind : drop file_slot (oid ++ (date ++ rest)) ≡ rest = rw (← append_assoc oid date rest) (drop_at (oid ++ date) rest file_slot (slot-length f formed)) in
    rw (
      here,
      d,
      append_assoc f.changes (changes_of fs) cs,
      take-append_seam f.changes,
      drop-append_seam f.changes,
      behind,
      padded-text long_name_most f.oid (date ++ rest),
      drop_at oid (date ++ rest) long_name_most (padded-length long_name_most f.oid (filed_oid f formed)),
      kept_read f.date rest (filed_dated f formed),
      files-read fs (through + n) (bytes + w) rows slots cs (and_r (is_filed f) _ e),
    )

-- The machine from the parts of its image, whatever lists they are.
module _ (m : Machine) (rows crows study version slots bytes : List ℕ) where
  pub parts_read : length rows ≡ files_most * file_row → length study ≡ long_name_most → length version ≡ long_name_most → length slots ≡ files_most * file_slot
      → take (length m.study) (study ++ (version ++ (slots ++ bytes))) ≡ m.study
      → take (length m.version) (version ++ (slots ++ bytes)) ≡ m.version
      → changes_in (length (changes_of m.files)) 0 crows bytes ≡ changes_of m.files
      → files_in (length m.files) 0 (rows ++ crows) (slots ++ bytes) (changes_of m.files) ≡ m.files
      → machine_in record {
        numbers = contents_of m ++ rows ++ crows;
        bytes = study ++ version ++ slots ++ bytes;
      }
      ≡ m
  unfolding machine_in
  parts_read lr ls index ll ts tv tc tf =
      let all_are : study ++ version ++ slots ++ bytes ≡ study ++ (version ++ (slots ++ bytes)) = simp append_assoc in
      let slots_are : drop (long_name_most + long_name_most) (study ++ (version ++ (slots ++ bytes))) ≡ slots ++ bytes =
      rw (← append_assoc study version (slots ++ bytes)) (drop_at (study ++ version) (slots ++ bytes) (long_name_most + long_name_most) (rw (length-append, ls, index))) in
      rw (
        all_are,
        ts,
        drop_at study (version ++ (slots ++ bytes)) long_name_most ls,
        tv,
        slots_are,
        drop_at rows crows (files_most * file_row) lr,
        drop_at slots bytes (files_most * file_slot) ll,
        tc,
        tf,
      )

-- The same where the lists are filled up with zeros.
changes-read-padded : (cs : List Change) (n k : ℕ) → all is_change cs ≡ true → changes_in (length cs) 0 (padded n (change_rows 0 cs)) (padded k (changes_bytes cs)) ≡ cs
unfolding padded
changes-read-padded cs n k e = changes-read cs 0 (replicate (n - length (change_rows 0 cs)) 0) (replicate (k - length (changes_bytes cs)) 0) e

pub files-read-padded : (fs : List Filed) (n k : ℕ) (rows slots : List ℕ) → all is_filed fs ≡ true
    → files_in (length fs) 0 (padded n (file_rows 0 0 fs) ++ rows) (padded k (file_slots fs) ++ slots) (changes_of fs) ≡ fs
unfolding padded
files-read-padded fs n k rows slots e =
    let z : List ℕ = replicate (n - length (file_rows 0 0 fs)) 0 in
    let y : List ℕ = replicate (k - length (file_slots fs)) 0 in
    rw (append_assoc (file_rows 0 0 fs) z rows, append_assoc (file_slots fs) y slots) (rw append-nil at (files-read fs 0 0 (z ++ rows) (y ++ slots) [] e))

pub image-read : (m : Machine) → obeys m ≡ true → machine_in (image m) ≡ m
unfolding image numbers_of bytes_of
image-read m e =
    let r = rules_of m e in
    let fs = m.files in
    let cs = changes_of fs in
    parts_read m (file_rows_part fs) (change_rows_part cs) (padded long_name_most m.study) (padded long_name_most m.version) (slots_part fs) (change_bytes_part cs)
    (file_rows_part-length fs r.few-files)
    (padded-length long_name_most m.study (long-name-length m.study r.study))
    (padded-length long_name_most m.version (long-name-length m.version r.version))
    (slots_part-length fs r.few-files r.filed)
    (padded-text long_name_most m.study _)
    (padded-text long_name_most m.version _)
    (changes-read-padded cs (changes_most * change_row) bytes_most (in_turn-changes [] cs r.turns))
    (files-read-padded fs (files_most * file_row) (files_most * file_slot) _ _ r.filed)

pub read_image-image : (m : Machine) → obeys m ≡ true → read_image (image m) ≡ some m
unfolding read_image image pick ◌and◌
read_image-image m e =
    let i : machine_in record { numbers = numbers_of m; bytes = bytes_of m } ≡ m = image-read m e in
    rw (i, e, same_refl (numbers_of m), same_refl (bytes_of m))

-- What a choice with nothing on the other side gave.
pub picked_some : {A : Type 0} (t : Bool) (a b : A) → pick t (some a) none ≡ some b → (t ≡ true) × (a ≡ b)
unfolding pick
picked_some true a b e = (refl, cc)
picked_some false a b e = let z : ◌≡◌ {A = ℕ} 0 1 = cc in absurd (omega arith)

pub read_image-is : (b : Buffers) (m : Machine) → read_image b ≡ some m → (image m ≡ b) × (obeys m ≡ true)
unfolding read_image image
read_image-is b m e =
    let n = machine_in b in
    let p = picked_some _ n m e in
    let q = and_r (obeys n) _ p.0 in
    let ns : numbers_of n ≡ b.numbers = same_eq (numbers_of n) b.numbers (and_l _ _ q) in
    let bs : bytes_of n ≡ b.bytes = same_eq (bytes_of n) b.bytes (and_r (same (numbers_of n) b.numbers) _ q) in
    rw (← p.1) (rw (ns, bs), and_l _ _ p.0)

-- No machine that obeys the rules has these buffers for its image.
pub read_image_none : (b : Buffers) → ((m : Machine) → image m ≡ b → obeys m ≡ true → ⊥) → read_image b ≡ none
read_image_none b unlike = go (read_image b) refl
  where
    go : (x : Option Machine) → read_image b ≡ x → x ≡ none
    go none e = refl
    go (some m) e = let p = read_image-is b m e in absurd (unlike m p.0 p.1)
