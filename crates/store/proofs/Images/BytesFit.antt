-- No byte of a name, a value or a date is above 126, so none of an image is.
use mathlib.Core.Path.{◌≡◌, refl}
use mathlib.Core.Bool.{Bool, true, false, ◌&&◌, false≢true}
use mathlib.Core.List.{List, [], ◌∷◌, ◌++◌}
use Prim.Native.Nat.{ℕ, ◌*◌, ◌≤◌, ◌<◌}
use native.Mathlib.Omega.{arith}
use lib.Dec.{leb}
use lib.ListN.{length, get_or}
use borrow.Author.Tests.{leb-true}
use Rattle.names.specs.Bytes.{all}
use Rattle.names.specs.Class.{is_name_byte, is_value_byte}
use Rattle.names.specs.Date.{is_date, date_size}
use Rattle.names.specs.Key.{Key, Name, is_repeat, are_levels, is_key, packed}
use Rattle.names.specs.Name.{long_name_most, name_most, is_name_of, is_name, is_long_name, is_text_of, is_value}
use Rattle.names.specs.Pick.{◌and◌}
use Rattle.names.proofs.ClassLaws.{name-value}
use Rattle.names.proofs.DateLaws.{is_date_byte, date-bytes, date-value}
use Rattle.names.proofs.Tests.{and_l, and_r, and_i, all_implied}
use Rattle.store.specs.Change.{Change, is_change, change_bytes, changes_bytes}
use Rattle.store.specs.Machine.{Filed, Machine, changes_of, is_filed, obeys, files_most, bytes_most}
use Rattle.store.specs.Image.{file_slot, padded, file_slots, bytes_of, slot_of}
use Rattle.store.proofs.Images.Arrangement.{names_part, slots_part, change_bytes_part}
use Rattle.store.proofs.Lists.AtMost.{at_most, all-at, most_nil, most_cons, most-append, most-padded}
use Rattle.store.proofs.Images.Rules.{rules_of}
use Rattle.store.proofs.Tables.InTurn.{in_turn-changes}
use Rattle.store.proofs.Layouts.EntryKeys.{repeat_length}

-- The highest byte.
abbrev pub byte_most : ℕ
byte_most = 126

pub value-byte-most : (c : ℕ) → is_value_byte c ≡ true → leb c byte_most ≡ true
unfolding is_value_byte
value-byte-most c e = second (leb 32 c) (leb c byte_most) e
  where
    second : (x y : Bool) → (x && y) ≡ true → y ≡ true
    second true y e = e
    second false y e = absurd (false≢true e)

name-most : (most : ℕ) (s : List ℕ) → is_name_of most s ≡ true → at_most byte_most s
unfolding is_name_of
name-most most s e =
    all_implied is_name_byte (λ n. leb n byte_most) (λ c f. value-byte-most c (name-value c f)) s (and_r (leb (length s) most) _ (and_r (leb 1 (length s)) _ e))

value-most : (s : List ℕ) → is_value s ≡ true → at_most byte_most s
unfolding is_value is_text_of
value-most s e = all_implied is_value_byte (λ n. leb n byte_most) value-byte-most s (and_r _ _ e)

date-most : (s : List ℕ) → is_date s ≡ true → at_most byte_most s
date-most s e = all_implied is_date_byte (λ n. leb n byte_most) (λ c f. value-byte-most c (date-value c f)) s (date-bytes s e)

-- A key's names, and its packed bytes with their length bytes.
name_repeat : (n : Name) → is_name n ≡ true → is_repeat n ≡ true
unfolding is_repeat
name_repeat [] e = refl
name_repeat (c ∷ n) e = e

levels_repeat : (k : Key) → are_levels k ≡ true → all is_repeat k ≡ true
unfolding are_levels all
levels_repeat [] e = refl
levels_repeat (n ∷ []) e = and_i (is_repeat n) true (name_repeat n e) refl
levels_repeat (n ∷ r ∷ k) e =
    and_i (is_repeat n) _ (name_repeat n (and_l _ _ e))
    (and_i (is_repeat r) _ (and_l _ _ (and_r (is_name n) _ e)) (levels_repeat k (and_r (is_repeat r) _ (and_r (is_name n) _ e))))

pub key_repeat : (k : Key) → is_key k ≡ true → all is_repeat k ≡ true
unfolding is_key all
key_repeat [] e = absurd (false≢true e)
key_repeat (n ∷ k) e = and_i (is_repeat n) _ (name_repeat n (and_l _ _ e)) (levels_repeat k (and_l _ _ (and_r (is_name n) _ e)))

repeat_most : (n : Name) → is_repeat n ≡ true → at_most byte_most n
unfolding is_repeat is_name
repeat_most [] e = most_nil byte_most
repeat_most (c ∷ n) e = name-most name_most (c ∷ n) e

packed-most : (k : Key) → all is_repeat k ≡ true → at_most byte_most (packed k)
unfolding packed
packed-most [] e = most_nil byte_most
packed-most (n ∷ k) e =
    let formed : (is_repeat n and all is_repeat k) ≡ true = unfold all in e in
    let short = repeat_length n (and_l _ _ formed) in
    most_cons byte_most _ _ (omega arith) (most-append byte_most n (packed k) (repeat_most n (and_l _ _ formed)) (packed-most k (and_r (is_repeat n) _ formed)))

change-most : (c : Change) → is_change c ≡ true → at_most byte_most (change_bytes c)
unfolding is_change change_bytes
change-most c e =
    most-append byte_most (packed c.key) c.value (packed-most c.key (key_repeat c.key (and_l _ _ e))) (value-most c.value (and_l _ _ (and_r (is_key c.key) _ e)))

changes-most : (cs : List Change) → all is_change cs ≡ true → at_most byte_most (changes_bytes cs)
unfolding changes_bytes
changes-most [] e = most_nil byte_most
changes-most (c ∷ cs) e =
    let formed : (is_change c and all is_change cs) ≡ true = unfold all in e in
    most-append byte_most (change_bytes c) (changes_bytes cs) (change-most c (and_l _ _ formed)) (changes-most cs (and_r (is_change c) _ formed))

slots_most : (fs : List Filed) → all is_filed fs ≡ true → at_most byte_most (file_slots fs)
unfolding file_slots is_filed is_long_name
slots_most [] e = most_nil byte_most
slots_most (f ∷ fs) e =
    let formed : (is_filed f and all is_filed fs) ≡ true = unfold all in e in
    let this = and_l _ _ formed in
    let oid = most-padded byte_most long_name_most f.oid (name-most long_name_most f.oid (and_l _ _ this)) in
    let date = most-padded byte_most date_size f.date (date-most f.date (and_r (is_long_name f.oid) _ this)) in
    most-append byte_most (slot_of f) (file_slots fs) (most-append byte_most (padded long_name_most f.oid) (padded date_size f.date) oid date) (slots_most fs (and_r (is_filed f) _ formed))

pub bytes_most_lem : (m : Machine) → obeys m ≡ true → at_most byte_most (bytes_of m)
unfolding bytes_of is_long_name
bytes_most_lem m o =
    let r = rules_of m o in
    let fs = m.files in
    let cs = changes_of fs in
    let study = most-padded byte_most long_name_most m.study (name-most long_name_most m.study r.study) in
    let version = most-padded byte_most long_name_most m.version (name-most long_name_most m.version r.version) in
    let names : at_most byte_most (names_part m.study m.version) = most-append byte_most (padded long_name_most m.study) (padded long_name_most m.version) study version in
    let slots = most-padded byte_most (files_most * file_slot) (file_slots fs) (slots_most fs r.filed) in
    let changes = most-padded byte_most bytes_most (changes_bytes cs) (changes-most cs (in_turn-changes [] cs r.turns)) in
    most-append byte_most (names_part m.study m.version ++ slots_part fs) (change_bytes_part cs) (most-append byte_most (names_part m.study m.version) (slots_part fs) names slots) changes

pub byte_fits : (m : Machine) → obeys m ≡ true → (i : ℕ) → get_or (bytes_of m) i 0 < 256
byte_fits m o i =
    let h : get_or (bytes_of m) i 0 ≤ byte_most = leb-true _ _ (all-at (λ n. leb n byte_most) (bytes_of m) i refl (bytes_most_lem m o)) in
    omega arith
