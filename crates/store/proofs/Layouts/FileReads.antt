-- The rows and slots of files, as the code reads them.
use mathlib.Core.Path.{◌≡◌, refl, sym, ◌∙◌}
use mathlib.Core.Bool.{Bool, true, false}
use mathlib.Core.List.{List}
use Prim.Native.Nat.{ℕ, ◌+◌, ◌-◌, ◌*◌}
use native.Mathlib.Omega.{arith}
use lib.Dec.{ltb}
use lib.ListN.{take, drop, length-take}
use lib.Seq.{take_all, take-take}
use borrow.Author.Tests.{ltb-true, ltb-false}
use Rattle.names.specs.Date.{date_size, not_later}
use Rattle.names.specs.Name.{long_name_most}
use Rattle.names.specs.Pick.{pick}
use Rattle.store.specs.code.Groups.{oid_size}
use Rattle.store.specs.Image.{file_slot, kept_in}
use Rattle.store.specs.code.Layout.{slot_holds, files_at, oid_length, oid_slot, oid_at, date_at}

-- A part of a given width.
pub part_of : (bs : List ℕ) (a w : ℕ) → take (a + w - a) (drop a bs) ≡ take w (drop a bs)
part_of bs a w = let e : a + w - a ≡ w = omega arith in rw e

-- The FileOID in its slot.
oid-part : (ns bs : List ℕ) (i : ℕ) → oid_at ns bs i ≡ take (oid_size ns i) (drop (files_at + file_slot * i) bs)
unfolding oid_at oid_slot oid_size pick
oid-part ns bs i = go (ltb (oid_length ns i) long_name_most) refl
  where
    s : List ℕ
    s = drop (files_at + file_slot * i) bs

    go : (b : Bool) → ltb (oid_length ns i) long_name_most ≡ b → take (oid_length ns i) (take long_name_most s) ≡ take (pick b (oid_length ns i) long_name_most) s
    go true e = take-take (oid_length ns i) long_name_most s (omega (arith, ltb-true (oid_length ns i) long_name_most e))
    go false e = take_all (oid_length ns i) (take long_name_most s) (omega (arith, ltb-false (oid_length ns i) long_name_most e, length-take long_name_most s))

pub oid_read : (ns bs : List ℕ) (i n : ℕ) → n ≡ oid_size ns i
    → take (files_at + file_slot * i + n - (files_at + file_slot * i)) (drop (files_at + file_slot * i) bs) ≡ oid_at ns bs i
oid_read ns bs i n e = part_of bs (files_at + file_slot * i) n ∙ rw e (sym (oid-part ns bs i))

pub slot-fits : (ns bs : List ℕ) (i n : ℕ) (t : Bool) → n ≡ oid_length ns i
    → t ≡ slot_holds n (take (files_at + file_slot * i + long_name_most - (files_at + file_slot * i)) (drop (files_at + file_slot * i) bs))
    → t ≡ slot_holds (oid_length ns i) (oid_slot bs i)
unfolding oid_slot
slot-fits ns bs i n t a e = e ∙ rw (part_of bs (files_at + file_slot * i) long_name_most, a)

-- Dates.
pub date-part : (bs : List ℕ) (i : ℕ)
    → take (files_at + file_slot * i + long_name_most + date_size - (files_at + file_slot * i + long_name_most)) (drop (files_at + file_slot * i + long_name_most) bs) ≡ date_at bs i
unfolding date_at kept_in
date-part bs i = part_of bs (files_at + file_slot * i + long_name_most) date_size

pub kept-date : (bs date : List ℕ) (f : ℕ) (t : Bool)
    → t ≡ not_later (take (files_at + file_slot * f + long_name_most + date_size - (files_at + file_slot * f + long_name_most)) (drop (files_at + file_slot * f + long_name_most) bs)) date
    → t ≡ not_later (date_at bs f) date
kept-date bs date f t e = e ∙ rw (date-part bs f)
