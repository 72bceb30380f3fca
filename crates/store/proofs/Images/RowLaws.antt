-- Rows, slots and change bytes: how long they are, and those of two lists joined.
use mathlib.Core.Path.{◌≡◌, refl, sym}
use mathlib.Core.Bool.{true}
use mathlib.Core.List.{List, [], ◌∷◌, ◌++◌, append_assoc, append-nil}
use Prim.Native.Nat.{ℕ, ◌+◌, ◌*◌, ◌-◌}
use native.Mathlib.Omega.{arith}
use lib.ListN.{length, length-append, take}
use Rattle.names.specs.Bytes.{all}
use Rattle.names.specs.Date.{date_size, is_date}
use Rattle.names.specs.Name.{long_name_most}
use Rattle.names.proofs.DateLaws.{date-length}
use Rattle.names.proofs.Tests.{and_l, and_r}
use Rattle.store.specs.Change.{Change, change_bytes, changes_bytes}
use Rattle.store.specs.Machine.{Filed, changes_of, is_filed}
use Rattle.store.specs.Image.{change_row, file_row, file_slot, padded, change_rows, file_rows, file_slots, slot_of, kept_in}
use Rattle.store.proofs.Lists.FilledParts.{padded-length, padded-text}
use Rattle.store.proofs.Images.Rules.{filed_oid, filed_date}
use Rattle.store.proofs.Tables.OneChange.{changes_bytes-append}

-- Lengths.
pub change_rows-length : (start : ℕ) (cs : List Change) → length (change_rows start cs) ≡ change_row * length cs
unfolding change_rows
change_rows-length start [] = refl
change_rows-length start (c ∷ cs) = omega (arith, change_rows-length (start + length (change_bytes c)) cs)

pub file_rows-length : (through bytes : ℕ) (fs : List Filed) → length (file_rows through bytes fs) ≡ file_row * length fs
unfolding file_rows
file_rows-length through bytes [] = refl
file_rows-length through bytes (f ∷ fs) = omega (arith, file_rows-length (through + length f.changes) (bytes + length (changes_bytes f.changes)) fs)

pub slot-length : (f : Filed) → is_filed f ≡ true → length (slot_of f) ≡ file_slot
slot-length f e = rw (length-append, padded-length long_name_most f.oid (filed_oid f e), padded-length date_size f.date (filed_date f e))

pub file_slots-length : (fs : List Filed) → all is_filed fs ≡ true → length (file_slots fs) ≡ file_slot * length fs
unfolding file_slots all
file_slots-length [] e = refl
file_slots-length (f ∷ fs) e =
    rw (length-append (slot_of f) (file_slots fs), slot-length f (and_l _ _ e), file_slots-length fs (and_r (is_filed f) _ e)) (omega arith)

-- Joined lists.
pub change_rows-append : (start : ℕ) (cs ds : List Change) → change_rows start (cs ++ ds) ≡ change_rows start cs ++ change_rows (start + length (changes_bytes cs)) ds
unfolding change_rows changes_bytes
change_rows-append start [] ds = let e : start + 0 ≡ start = omega arith in rw e
change_rows-append start (c ∷ cs) ds =
    let n = length (change_bytes c) in
    let e : start + length (change_bytes c ++ changes_bytes cs) ≡ start + n + length (changes_bytes cs) = rw length-append (omega arith) in
    rw (change_rows-append (start + n) cs ds, e)

pub file_rows-append : (through bytes : ℕ) (fs gs : List Filed)
    → file_rows through bytes (fs ++ gs) ≡ file_rows through bytes fs ++ file_rows (through + length (changes_of fs)) (bytes + length (changes_bytes (changes_of fs))) gs
unfolding file_rows changes_of changes_bytes
file_rows-append through bytes [] gs = let e : through + 0 ≡ through = omega arith in let g : bytes + 0 ≡ bytes = omega arith in rw (e, g)
file_rows-append through bytes (f ∷ fs) gs =
    let n = length f.changes in
    let w = length (changes_bytes f.changes) in
    let e : through + length (f.changes ++ changes_of fs) ≡ through + n + length (changes_of fs) = rw length-append (omega arith) in
    let g : bytes + length (changes_bytes (f.changes ++ changes_of fs)) ≡ bytes + w + length (changes_bytes (changes_of fs)) =
    rw (changes_bytes-append f.changes (changes_of fs), length-append) (omega arith) in
    rw (file_rows-append (through + n) (bytes + w) fs gs, e, g)

pub file_slots-append : (fs gs : List Filed) → file_slots (fs ++ gs) ≡ file_slots fs ++ file_slots gs
unfolding file_slots
file_slots-append [] gs = refl
file_slots-append (f ∷ fs) gs = rw (file_slots-append fs gs) (sym (append_assoc (slot_of f) (file_slots fs) (file_slots gs)))

-- A date in its part of a slot.
pub kept_read : (date rest : List ℕ) → is_date date ≡ true → kept_in (take date_size (padded date_size date ++ rest)) ≡ date
unfolding kept_in
kept_read date rest e = rw (← date-length date e) (padded-text (length date) date rest)

pub kept-padded : (s : List ℕ) → length s ≡ date_size → padded date_size (kept_in s) ≡ s
unfolding kept_in padded
kept-padded s e = let z : date_size - length s ≡ 0 = omega arith in rw z (append-nil s)
