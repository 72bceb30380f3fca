-- A file is taken: begun on a valid image, dropped again, or filed.
use mathlib.Core.Path.{◌≡◌, refl, sym, ◌∙◌, ap}
use mathlib.Core.Bool.{true}
use mathlib.Core.List.{List, [], ◌++◌, append-nil}
use Prim.Native.Nat.{ℕ, ◌≤◌, ◌<◌}
use native.Mathlib.Omega.{arith}
use Rattle.std.specs.Prelude.{Result, Ok, is_ok}
use lib.ListN.{length, drop, get_or, length-append, drop_of_length-le}
use Rattle.names.specs.Bytes.{all}
use Rattle.names.specs.Date.{date_size}
use Rattle.names.specs.Key.{names_in}
use Rattle.names.specs.Name.{long_name_most}
use Rattle.store.specs.Change.{Change, is_change, changes_bytes, live}
use Rattle.store.specs.Image.{Buffers, image, numbers_of, bytes_of}
use Rattle.store.specs.code.Index.{Indexed, position_in, table_at}
use Rattle.store.specs.code.Layout.{file_count, change_count, byte_count}
use Rattle.store.specs.Machine.{Machine, changes_of, is_filed, files_most}
use Rattle.store.specs.Outcomes.{buffers}
use Rattle.store.specs.code.Rows.{first_changes}
use Rattle.store.specs.code.Withdrawal.{Valid}
use Rattle.store.specs.code.With.{With, numbers_with, bytes_with, filing}
use Rattle.store.specs.code.Writes.{Cleared, Closed}
use Rattle.store.proofs.Layouts.ChangesLaid.{first_changes-length}
use Rattle.store.proofs.Tables.Holds.{table-holds}
use Rattle.store.proofs.Images.ImageLaws.{read_image-is}
use Rattle.store.proofs.Layouts.ImageLaid.{image-changes}
use Rattle.store.proofs.Tables.InTurn.{in_turn-changes}
use Rattle.store.proofs.Tables.Ranks.{position-held}
use Rattle.store.proofs.Images.Rules.{rules_of, filed_oid, filed_date}
use Rattle.store.proofs.Images.ImageParts.{numbers_with_own, bytes_with_own}
use Rattle.store.proofs.Images.WithLaws.{changes_bytes-joined, clear_is, close_is}
use Rattle.store.specs.code.Pending.{machine_of, added_at, Loaded, Taking, Begins}
use Rattle.store.specs.code.Judged.{Judged}
use Rattle.store.specs.declared.pending.Pending.{Pending}
use Rattle.store.specs.declared.replay.LiveIndex.{LiveIndex}

-- The contents are the machine's, whatever changes stand in the buffers.
contents-files : (m : Machine) (cs : List Change) → get_or (numbers_with m cs) 0 0 ≡ length m.files
unfolding numbers_with
contents-files m cs = refl

contents-changes : (m : Machine) (cs : List Change) → get_or (numbers_with m cs) 1 0 ≡ length (changes_of m.files)
unfolding numbers_with
contents-changes m cs = refl

contents-bytes : (m : Machine) (cs : List Change) → get_or (numbers_with m cs) 2 0 ≡ length (changes_bytes (changes_of m.files))
unfolding numbers_with
contents-bytes m cs = refl

module _ (m : Machine) (cs : List Change) (ns bs : List ℕ) (c b : ℕ) (w : With m cs ns bs c b) where
  pub with_files_lem : file_count ns ≡ length m.files
  with_files_lem = ap (λ (l : List ℕ). get_or l 0 0) w.numbers ∙ contents-files m cs

  pub with_changes_lem : change_count ns ≡ length (changes_of m.files)
  with_changes_lem = ap (λ (l : List ℕ). get_or l 1 0) w.numbers ∙ contents-changes m cs

  pub with_bytes : byte_count ns ≡ length (changes_bytes (changes_of m.files))
  with_bytes = ap (λ (l : List ℕ). get_or l 2 0) w.numbers ∙ contents-bytes m cs

-- Two buffers are an image, each by itself.
image_by : (m : Machine) (ns bs : List ℕ) → ns ≡ numbers_of m → bs ≡ bytes_of m → buffers ns bs ≡ image m
unfolding image
image_by m ns bs e f = rw (e, f)

-- A valid image, before anything is added.
module _ (ns bs index : List ℕ) (v : Valid ns bs) where
  abbrev own : Machine
  own = machine_of ns bs

  valid-numbers : numbers_of own ≡ ns
  unfolding image
  valid-numbers = ap (λ (b : Buffers). b.numbers) (read_image-is (buffers ns bs) own v.read).0

  valid-bytes : bytes_of own ≡ bs
  unfolding image
  valid-bytes = ap (λ (b : Buffers). b.bytes) (read_image-is (buffers ns bs) own v.read).0

  first_own : first_changes ns bs (change_count ns) ≡ changes_of own.files
  first_own =
      sym (ap (λ (l : List ℕ). first_changes l bs (change_count l)) valid-numbers)
      ∙ sym (ap (λ (l : List ℕ). first_changes (numbers_of own) l (change_count (numbers_of own))) valid-bytes)
      ∙ image-changes own (rules_of own (read_image-is (buffers ns bs) own v.read).1)

  with_loaded : With own (first_changes ns bs (change_count ns)) ns bs (change_count ns) (byte_count ns)
  with_loaded =
      let numbers : ns ≡ numbers_with own (changes_of own.files) = sym (numbers_with_own own ∙ valid-numbers) in
      record {
        numbers = numbers ∙ sym (ap (numbers_with own) first_own);
        bytes = sym (bytes_with_own own ∙ valid-bytes) ∙ sym (ap (bytes_with own) first_own);
        changes = sym (first_changes-length ns bs (change_count ns));
        packed =
            ap (λ (l : List ℕ). get_or l 2 0) numbers
            ∙ contents-bytes own (changes_of own.files)
            ∙ sym (ap (λ (l : List Change). length (changes_bytes l)) first_own);
      }

  nothing-added : added_at ns bs (change_count ns) ≡ []
  unfolding added_at
  nothing-added =
      let short : length (first_changes ns bs (change_count ns)) ≤ change_count ns = omega (arith, first_changes-length ns bs (change_count ns)) in
      drop_of_length-le (first_changes ns bs (change_count ns)) short

  pub begins : (n next : ℕ) → Indexed ns bs (change_count ns) index n
      → Begins ns bs index record { changes = change_count ns; bytes = byte_count ns; entries = n; finger = next }
  begins n next x =
      let o = (read_image-is (buffers ns bs) own v.read).1 in
      let r = rules_of own o in
      let few-changes = r.few-changes in
      let few_bytes = r.few_bytes in
      let c : change_count ns ≡ length (changes_of own.files) = sym (first_changes-length ns bs (change_count ns)) ∙ ap length first_own in
      let b : byte_count ns ≡ length (changes_bytes (changes_of own.files)) = with_loaded.packed ∙ ap (λ (l : List Change). length (changes_bytes l)) first_own in
      record {
        taking = record {
          loaded = record {
            numbers-size = v.numbers;
            bytes-size = v.bytes;
            rules = o;
            holds = with_loaded;
            joined = first_own ∙ sym (append-nil (changes_of own.files)) ∙ sym (ap (λ (l : List Change). changes_of own.files ++ l) nothing-added);
            few = omega arith;
            small = omega arith;
          };
          indexed = x;
        };
        valid = v;
        nothing = nothing-added;
      }

-- What the judge of the image answered.
pub loaded-begins : (ns bs index sizes : List ℕ) (s : LiveIndex) → Judged ns bs index sizes (Ok s)
    → Begins ns bs index record { changes = change_count ns; bytes = byte_count ns; entries = s.entries; finger = s.finger }
loaded-begins ns bs index sizes s w = begins ns bs index w.valid s.entries s.finger w.indexed

-- What stands in the buffers while a file is taken.
module _ (ns bs : List ℕ) (t : Pending) (k : Loaded ns bs t) where
  pub taking-holds : With (machine_of ns bs) (changes_of (machine_of ns bs).files ++ added_at ns bs t.changes) ns bs t.changes t.bytes
  taking-holds = rw k.joined at k.holds

  pub own_changes : change_count ns ≡ length (changes_of (machine_of ns bs).files)
  own_changes = with_changes_lem (machine_of ns bs) (first_changes ns bs t.changes) ns bs t.changes t.bytes k.holds

  pub own_bytes : byte_count ns ≡ length (changes_bytes (changes_of (machine_of ns bs).files))
  own_bytes = with_bytes (machine_of ns bs) (first_changes ns bs t.changes) ns bs t.changes t.bytes k.holds

  pub own_files : file_count ns ≡ length (machine_of ns bs).files
  own_files = with_files_lem (machine_of ns bs) (first_changes ns bs t.changes) ns bs t.changes t.bytes k.holds

  pub from_changes : change_count ns ≤ t.changes
  from_changes =
      let c = taking-holds.changes in
      omega (arith, own_changes, length-append (changes_of (machine_of ns bs).files) (added_at ns bs t.changes))

  pub from_bytes : byte_count ns ≤ t.bytes
  from_bytes =
      let b = taking-holds.packed in
      omega (arith, own_bytes, changes_bytes-joined (changes_of (machine_of ns bs).files) (added_at ns bs t.changes))

  pub dropped : (ns' bs' : List ℕ) → Cleared ns bs (change_count ns) t.changes (byte_count ns) t.bytes ns' bs' → buffers ns' bs' ≡ image (machine_of ns bs)
  dropped ns' bs' z =
      let m : Machine = machine_of ns bs in
      let w = clear_is m k.rules ns bs ns' bs' (changes_of m.files) (added_at ns bs t.changes) (change_count ns) t.changes (byte_count ns) t.bytes taking-holds own_changes own_bytes k.few k.small z in
      image_by m ns' bs' (w.numbers ∙ numbers_with_own m) (w.bytes ∙ bytes_with_own m)

  pub filed : (oid date ns' bs' : List ℕ)
      → length (machine_of ns bs).files < files_most
      → is_filed record { oid = oid; date = date; changes = added_at ns bs t.changes } ≡ true
      → Closed ns bs (file_count ns) oid date t.changes t.bytes ns' bs'
      → buffers ns' bs' ≡ image (filing (machine_of ns bs) record { oid = oid; date = date; changes = added_at ns bs t.changes })
  filed oid date ns' bs' room formed z =
      let m : Machine = machine_of ns bs in
      let f = own_files in
      let w = close_is m k.rules ns bs ns' bs' (added_at ns bs t.changes) (file_count ns) oid date t.changes t.bytes taking-holds own_files (omega arith) formed z in
      image_by (filing m record { oid = oid; date = date; changes = added_at ns bs t.changes }) ns' bs' w.0 w.1

  pub files-room : length (machine_of ns bs).files < files_most → file_count ns < files_most
  files-room h = let f = own_files in omega arith

-- What the index says of them, and a search in it of a key.
module _ (ns bs index : List ℕ) (t : Pending) (k : Taking ns bs index t) where
  pub taking-formed : all is_change (first_changes ns bs t.changes) ≡ true
  taking-formed = in_turn-changes [] (first_changes ns bs t.changes) k.indexed.lawful

  pub found_live : (text : List ℕ) (n : ℕ) (f : Result ℕ ℕ) → f ≡ position_in (names_in n (drop 0 text)) (table_at ns bs index t.entries)
      → is_ok f ≡ live (first_changes ns bs t.changes) (names_in n text)
  found_live text n f e = rw e (position-held (names_in n text) _ ∙ rw k.indexed.says (table-holds (first_changes ns bs t.changes) (names_in n text)))

-- The forms of what is filed.
pub oid-short : (oid date : List ℕ) (cs : List Change) → is_filed record { oid = oid; date = date; changes = cs } ≡ true → length oid ≤ long_name_most
oid-short oid date cs e = filed_oid record { oid = oid; date = date; changes = cs } e

pub date-long : (oid date : List ℕ) (cs : List Change) → is_filed record { oid = oid; date = date; changes = cs } ≡ true → length date ≤ date_size
date-long oid date cs e = filed_date record { oid = oid; date = date; changes = cs } e
