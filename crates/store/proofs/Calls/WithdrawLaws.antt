-- Withdraw on a valid image: what its functions did, and what the machine answers.
use mathlib.Core.Path.{◌≡◌, refl, sym, ap, ◌∙◌}
use mathlib.Core.Bool.{true, false}
use mathlib.Core.List.{List, [], ◌∷◌}
use mathlib.Core.Option.{Option, none, some}
use Prim.Native.Nat.{ℕ, ◌-◌, ◌<◌}
use native.Mathlib.Omega.{arith}
use lib.ListN.{length, get_or}
use Rattle.std.specs.Prelude.{Result, Err}
use Rattle.names.specs.Order.{same}
use Rattle.store.specs.Answer.{refused, unless, present, ◌>>=◌, ◌>>◌}
use Rattle.store.specs.Calls.{Outcome, outcome, right_lengths, opened, without_last, withdraw, withdraw_call}
use Rattle.store.specs.Change.{changes_bytes}
use Rattle.store.specs.Image.{Buffers, image, numbers_of, bytes_of, machine_in, read_image}
use Rattle.store.specs.code.Layout.{oid_at, file_count, change_count, byte_count, through_before, bytes_before}
use Rattle.store.specs.Machine.{Filed, Machine, changes_of, last_filed, obeys, with_files}
use Rattle.store.specs.Outcomes.{buffers}
use Rattle.store.specs.code.Refusals.{number_of}
use Rattle.store.specs.declared.answer.Refusal.{Refusal}
use Rattle.store.specs.declared.answer.Refusal.TheVariants.{NotLast}
use Rattle.store.specs.code.Withdrawal.{Valid, LastFile, Struck}
use Rattle.store.specs.code.With.{filing}
use Rattle.store.specs.code.Writes.{Cleared, Unfiled}
use Rattle.store.proofs.Images.ImageLaws.{read_image-is}
use Rattle.store.proofs.Images.LastRow.{changes_through, bytes_through_lem, files-count, changes-count, bytes_count, last_oid}
use Rattle.store.proofs.Images.Lengths.{image_lengths}
use Rattle.store.proofs.Calls.OpenLaws.{right_lengths_lem, opened_unsized, opened_none}
use Rattle.store.proofs.Images.ImageParts.{numbers_withdrawn, bytes_withdrawn}
use Rattle.store.proofs.Calls.WithdrawRules.{room_of, obeys_struck, last_none, last_some, withdraw_last, withdraw-other, withdraw_none}

-- Row, slot and contents, and then the changes.
pub struck : (ns bs n1 b1 n2 b2 : List ℕ) (f c b count : ℕ) → Unfiled ns bs f c b n1 b1 → Cleared n1 b1 c (change_count ns) b (byte_count ns) n2 b2
    → c ≡ through_before ns f → b ≡ bytes_before ns f → count ≡ change_count ns - c → Struck ns bs f count n2 b2
struck ns bs n1 b1 n2 b2 f c b count u k ec eb ek =
    record { count-is = ek ∙ rw ec; numbers = k.numbers ∙ rw (u.numbers, ec, eb); bytes = k.bytes ∙ rw (u.bytes, eb) }

-- On the image of a machine whose last file is f.
module _ (m : Machine) (f : Filed) (o : obeys (filing m f) ≡ true) where
  place_last : file_count (numbers_of (filing m f)) - 1 ≡ length m.files
  place_last = rw (files-count m f o) (omega arith)

  last_is : LastFile (numbers_of (filing m f)) (bytes_of (filing m f)) (length m.files)
  last_is =
      let r = room_of m f o in
      let l = image_lengths (filing m f) o in
      let changes = changes-count m f o in
      let bytes = bytes_count m f o in
      record {
        numbers = l.0;
        bytes = l.1;
        few = r.files;
        changes = rw (changes_through m f o) (omega arith);
        few-changes = omega arith;
        packed = rw (bytes_through_lem m f o) (omega arith);
        few_bytes = omega arith;
      }

  done : (oid n' b' : List ℕ) (count : ℕ) → same oid (oid_at (numbers_of (filing m f)) (bytes_of (filing m f)) (length m.files)) ≡ true
      → Struck (numbers_of (filing m f)) (bytes_of (filing m f)) (length m.files) count n' b'
      → (b : Buffers) → record { refusal = 0; count = count; buffers = buffers n' b' } ≡ outcome b (withdraw (filing m f) oid)
  unfolding outcome image
  done oid n' b' count e s b =
      let r = room_of m f o in
      let m-obeys = obeys_struck m f o in
      let rows : change_count (numbers_of (filing m f)) - length (changes_of m.files) ≡ length f.changes = rw (changes-count m f o) (omega arith) in
      let packed : byte_count (numbers_of (filing m f)) - length (changes_bytes (changes_of m.files)) ≡ length (changes_bytes f.changes) =
      rw (bytes_count m f o) (omega arith) in
      let ns : n' ≡ numbers_of m = s.numbers ∙ rw (changes_through m f o, bytes_through_lem m f o, rows) (numbers_withdrawn m m-obeys f r) in
      let bs : b' ≡ bytes_of m = s.bytes ∙ rw (bytes_through_lem m f o, packed) (bytes_withdrawn m m-obeys f r) in
      let n : count ≡ length f.changes = s.count-is ∙ rw (changes_through m f o, rows) in
      rw (withdraw_last m f oid (rw last_oid at e), ns, bs, n)

-- A valid image is that of a machine with no file, or with a last one.
pub record Last (ns bs : List ℕ) : Type 0 where
  pub before : Machine
  pub file : Filed
  pub numbers : ns ≡ numbers_of (filing before file)
  pub bytes : bs ≡ bytes_of (filing before file)
  pub obeyed : obeys (filing before file) ≡ true
  pub machine : machine_in (buffers ns bs) ≡ filing before file

module _ (ns bs : List ℕ) (v : Valid ns bs) where
  pub read-numbers : ns ≡ numbers_of (machine_in (buffers ns bs))
  unfolding image
  read-numbers = ap (λ (b : Buffers). b.numbers) (sym (read_image-is (buffers ns bs) (machine_in (buffers ns bs)) v.read).0)

  pub read-bytes : bs ≡ bytes_of (machine_in (buffers ns bs))
  unfolding image
  read-bytes = ap (λ (b : Buffers). b.bytes) (sym (read_image-is (buffers ns bs) (machine_in (buffers ns bs)) v.read).0)

  pub read-obeys : obeys (machine_in (buffers ns bs)) ≡ true
  read-obeys = (read_image-is (buffers ns bs) (machine_in (buffers ns bs)) v.read).1

  read_count : file_count ns ≡ length (machine_in (buffers ns bs)).files
  unfolding numbers_of
  read_count = ap (λ (x : List ℕ). get_or x 0 0) read-numbers

  last_of : (f : Filed) → last_filed (machine_in (buffers ns bs)).files ≡ some f → Last ns bs
  last_of f e =
      let m : Machine = machine_in (buffers ns bs) in
      let w : Machine = with_files m (without_last m.files) in
      let whole : m ≡ filing w f =
      ap (with_files m) (last_some m.files f e) in
      record {
        before = w;
        file = f;
        numbers = read-numbers ∙ ap numbers_of whole;
        bytes = read-bytes ∙ ap bytes_of whole;
        obeyed = ap obeys (sym whole) ∙ read-obeys;
        machine = whole;
      }

  no-file : file_count ns ≡ 0 → (machine_in (buffers ns bs)).files ≡ []
  no-file h = go (machine_in (buffers ns bs)).files (sym read_count ∙ h)
    where
      go : (fs : List Filed) → length fs ≡ 0 → fs ≡ []
      go [] e = refl
      go (f ∷ fs) e = absurd (omega arith)

  -- "15 not the last standing FileOID | none standing"
  pub none_standing : (oid : List ℕ) (r : Refusal) → (0 < file_count ns → ⊥) → ◌≡◌ {A = Result ℕ Refusal} (Err r) (Err NotLast)
      → record { refusal = number_of r; count = 0; buffers = buffers ns bs } ≡ outcome (buffers ns bs) (withdraw (machine_in (buffers ns bs)) oid)
  unfolding outcome
  none_standing oid r h e = let q : r ≡ NotLast = cc in rw (q, withdraw_none (machine_in (buffers ns bs)) oid (no-file (omega arith)))

  module _ (f : ℕ) (h : 0 < file_count ns) (e : f ≡ file_count ns - 1) where
    some_last : Last ns bs
    some_last = go (last_filed (machine_in (buffers ns bs)).files) refl
      where
        go : (x : Option Filed) → last_filed (machine_in (buffers ns bs)).files ≡ x → Last ns bs
        go none e = let z : file_count ns ≡ 0 = read_count ∙ rw (last_none _ e) in absurd (omega arith)
        go (some f) e = last_of f e

    pub last_file : LastFile ns bs f
    last_file = let l = some_last in rw e (go l.before l.file l.obeyed l.numbers l.bytes)
      where
        go : (m : Machine) (f : Filed) → obeys (filing m f) ≡ true → ns ≡ numbers_of (filing m f) → bs ≡ bytes_of (filing m f) → LastFile ns bs (file_count ns - 1)
        go m f o p q = rw (p, q, place_last m f o) (last_is m f o)

    pub other-oid : (oid : List ℕ) → same oid (oid_at ns bs f) ≡ false
        → record { refusal = 15; count = 0; buffers = buffers ns bs } ≡ outcome (buffers ns bs) (withdraw (machine_in (buffers ns bs)) oid)
    unfolding outcome
    other-oid oid d = let l = some_last in rw (l.machine, withdraw-other l.before l.file oid (go l.before l.file l.obeyed l.numbers l.bytes (rw e at d)))
      where
        go : (m : Machine) (f : Filed) → obeys (filing m f) ≡ true → ns ≡ numbers_of (filing m f) → bs ≡ bytes_of (filing m f)
            → same oid (oid_at ns bs (file_count ns - 1)) ≡ false → same oid f.oid ≡ false
        go m f o p q e = rw (p, q, place_last m f o, last_oid m f o) at e

    pub last_struck : (oid n' b' : List ℕ) (count : ℕ) → same oid (oid_at ns bs f) ≡ true → Struck ns bs f count n' b'
        → record { refusal = 0; count = count; buffers = buffers n' b' } ≡ outcome (buffers ns bs) (withdraw (machine_in (buffers ns bs)) oid)
    last_struck oid n' b' count d s = let l = some_last in rw l.machine (go l.before l.file l.obeyed l.numbers l.bytes (rw e at d) (rw e at s))
      where
        go : (m : Machine) (f : Filed) → obeys (filing m f) ≡ true → ns ≡ numbers_of (filing m f) → bs ≡ bytes_of (filing m f)
            → same oid (oid_at ns bs (file_count ns - 1)) ≡ true → Struck ns bs (file_count ns - 1) count n' b'
            → record { refusal = 0; count = count; buffers = buffers n' b' } ≡ outcome (buffers ns bs) (withdraw (filing m f) oid)
        go m f o p q e s = done m f o oid n' b' count (rw (p, q, place_last m f o) at e) (rw (p, q, place_last m f o) at s) (buffers ns bs)

pub ruleset withdrawing = (none_standing, last_file, other-oid, last_struck)

-- The call on a valid image is Withdraw on its machine; "Checks 1, 2, 15".
pub withdraw_unsized : (b : Buffers) (oid : List ℕ) (n : ℕ) → refused n ≡ unless (right_lengths b) 1 → record { refusal = n; count = 0; buffers = b } ≡ withdraw_call b oid
unfolding withdraw_call outcome ◌>>=◌
withdraw_unsized b oid n e = rw (opened_unsized b n e)

pub withdraw_invalid : (b : Buffers) (oid : List ℕ) → right_lengths b ≡ true → read_image b ≡ none
    → record { refusal = 2; count = 0; buffers = b } ≡ withdraw_call b oid
unfolding withdraw_call outcome ◌>>=◌
withdraw_invalid b oid e f = rw (opened_none b e f)

pub withdraw-read : (ns bs oid : List ℕ) (x : Outcome) → x ≡ outcome (buffers ns bs) (withdraw (machine_in (buffers ns bs)) oid) → Valid ns bs
    → x ≡ withdraw_call (buffers ns bs) oid
unfolding withdraw_call opened unless present ◌>>◌ ◌>>=◌
withdraw-read ns bs oid x e v = e ∙ rw (right_lengths_lem (buffers ns bs) v.numbers v.bytes, v.read)
