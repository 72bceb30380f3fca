-- The ODM tag, by places: its header, the series of the standing files, and the number that refuses it.
use mathlib.Core.Path.{◌≡◌, refl, sym, ◌∙◌}
use mathlib.Core.Bool.{Bool, true, false, not, false≢true}
use mathlib.Core.List.{List, [], ◌∷◌}
use mathlib.Core.Option.{Option, none, some}
use Prim.Native.Nat.{ℕ, ◌≤◌, ◌<◌}
use native.Mathlib.Omega.{arith}
use lib.Dec.{eqb}
use lib.ListN.{length, get_or}
use borrow.Author.Tests.{eq-eqb, ne_eqb, lt-ltb, le-ltb, not-true, not-false}
use Rattle.std.specs.Prelude.{Ok, Err}
use Rattle.names.specs.Bytes.{bytes}
use Rattle.names.specs.Date.{is_date, picture, not_later}
use Rattle.names.specs.Name.{is_long_name, is_name_of}
use Rattle.names.specs.Order.{same, alike}
use Rattle.names.specs.Pick.{pick, ◌and◌}
use Rattle.store.specs.Answer.{refused, accepted, ◌>>=◌, ◌>>◌, unless}
use Rattle.store.specs.Machine.{Filed, Machine, standing, last_filed, files_most}
use Rattle.store.proofs.Calls.WithdrawRules.{last_none}
use Rattle.reader.specs.Element.{Form, long_name, date, file_type, elements, element_at, attribute_at, has_form, get, or_else, well_placed}
use Rattle.reader.specs.code.Found.{attrs_of}
use Rattle.reader.specs.Judge.{Header, header_of, follows, in_series, open_odm}
use Rattle.reader.specs.code.Places.{part}
use Rattle.reader.specs.Tag.{Attr}
use Rattle.reader.specs.declared.cursor.TagRead.{TagRead}
use Rattle.reader.specs.code.Placed.{Placed}
use Rattle.reader.proofs.Forms.{placed, required-at}
use Rattle.reader.specs.code.Answered.{name_of, Attributed, plain_at}
use Rattle.reader.specs.code.Values.{sort_at}
use Rattle.reader.specs.code.OdmTag.{Heads, HeadOf, OdmRead, StretchInside, stretch_at, date_number}
use Rattle.store.specs.code.Standing.{is_last, not_before}
use Rattle.store.specs.code.Pending.{machine_of}
use Rattle.store.specs.code.Refusals.{number_of}
use Rattle.store.specs.declared.answer.Refusal.{Refusal}
use Rattle.store.specs.declared.answer.Refusal.TheVariants.{Series, Limit}
use Rattle.reader.specs.declared.odm.HeaderPlaces.{HeaderPlaces}
use Rattle.reader.proofs.PlainValues.{plain_value, plain-header}

-- A value whose form the empty text does not have is there.
plain-there : (s : List ℕ) (t : TagRead) (j : ℕ) (f : Form) (o : Option (List ℕ)) → o ≡ plain_at s t j → has_form f (or_else [] o) ≡ true → has_form f [] ≡ false
    → o ≡ some (stretch_at s t j)
unfolding plain_at
plain-there s t j f o e h k = e ∙ go (eqb (get_or t.found.starts j 0) 0) (rw e at h)
  where
    go : (b : Bool) → has_form f (or_else [] (pick b none (some (stretch_at s t j)))) ≡ true → pick b none (some (stretch_at s t j)) ≡ some (stretch_at s t j)
    go true g = absurd (false≢true (sym k ∙ (unfold pick or_else in g)))
    go false g = unfold pick in refl

-- What a well placed ODM tag says by places.
module _ (s : List ℕ) (t : TagRead) (a : Attributed s t) (row : t.element ≡ 0)
    (told : accepted t.element ≡ well_placed (sort_at 0) 0 (name_of s t) (attrs_of s t)) where
  well : well_placed none 0 (name_of s t) (attrs_of s t) ≡ accepted t.element
  unfolding sort_at pick
  well = sym told

  stretch : (j : ℕ) → j < 8 → StretchInside s t j
  stretch j h = record { order = a.holds.order j h; inside = a.holds.inside j h }

  pub odm_read : OdmRead s t
  unfolding attribute_at element_at elements has_form is_long_name is_name_of is_date picture same alike ◌and◌
  odm_read =
      let q : Placed t.element (attrs_of s t) = placed none 0 (name_of s t) (attrs_of s t) t.element well in
      let p : Placed 0 (attrs_of s t) = rw row at q in
      record {
        placed = well;
        file_type = plain-there s t 1 file_type _ (plain_value s 0 1 t row a q (plain-header 1 (omega arith))) (required-at 0 (attrs_of s t) p 1 file_type (omega arith) refl refl) refl;
        oid = plain-there s t 2 long_name _ (plain_value s 0 2 t row a q (plain-header 2 (omega arith))) (required-at 0 (attrs_of s t) p 2 long_name (omega arith) refl refl) refl;
        created = plain-there s t 3 date _ (plain_value s 0 3 t row a q (plain-header 3 (omega arith))) (required-at 0 (attrs_of s t) p 3 date (omega arith) refl refl) refl;
        prior = plain_value s 0 5 t row a q (plain-header 5 (omega arith));
        as_of = plain_value s 0 6 t row a q (plain-header 6 (omega arith));
        at_type = stretch 1 (omega arith);
        at-oid = stretch 2 (omega arith);
        at-created = stretch 3 (omega arith);
        at-prior = stretch 5 (omega arith);
        at_as_of = stretch 6 (omega arith);
      }

-- The places of a stretch, as the code has them.
module _ (s : List ℕ) (t : TagRead) (j : ℕ) (i : StretchInside s t j) where
  pub places_order : (a e : ℕ) → a ≡ get_or t.found.starts j 0 → e ≡ get_or t.found.ends j 0 → a ≤ e
  places_order a e u v = rw (u, v) i.order

  pub places_inside : (e : ℕ) → e ≡ get_or t.found.ends j 0 → e ≤ length s
  places_inside e v = rw v i.inside

-- The header: the CreationDateTime is kept where there is no AsOfDateTime.
pub number-created : (t : TagRead) (a : ℕ) → a ≡ get_or t.found.starts 6 0 → a ≡ 0 → 3 ≡ date_number t
unfolding date_number pick
number-created t a e z = rw (eq-eqb (get_or t.found.starts 6 0) 0 (sym e ∙ z))

pub number_as_of : (t : TagRead) (a : ℕ) → a ≡ get_or t.found.starts 6 0 → (a ≡ 0 → ⊥) → 6 ≡ date_number t
unfolding date_number pick
number_as_of t a e n = rw (ne_eqb (get_or t.found.starts 6 0) 0 (λ z. n (e ∙ z)))

pub ruleset date-numbers = (number-created, number_as_of)

module _ (s : List ℕ) (t : TagRead) (o : OdmRead s t) where
  head_date : stretch_at s t (date_number t) ≡ (header_of (attrs_of s t)).date
  unfolding header_of
  head_date = rw (o.as_of, o.created) (go (eqb (get_or t.found.starts 6 0) 0) refl)
    where
      go : (b : Bool) → eqb (get_or t.found.starts 6 0) 0 ≡ b → stretch_at s t (date_number t) ≡ or_else (or_else [] (some (stretch_at s t 3))) (plain_at s t 6)
      go true e = unfold date_number plain_at or_else pick in rw e
      go false e = unfold date_number plain_at or_else pick in rw e

  date-at : StretchInside s t (date_number t)
  date-at = go (eqb (get_or t.found.starts 6 0) 0) refl
    where
      go : (b : Bool) → eqb (get_or t.found.starts 6 0) 0 ≡ b → StretchInside s t (date_number t)
      go true e = unfold date_number pick in rw e o.at-created
      go false e = unfold date_number pick in rw e o.at_as_of

  head_oid : stretch_at s t 2 ≡ (header_of (attrs_of s t)).oid
  unfolding header_of or_else
  head_oid = rw o.oid

  head_snapshot : same (bytes "Snapshot") (stretch_at s t 1) ≡ (header_of (attrs_of s t)).snapshot
  unfolding header_of or_else
  head_snapshot = rw o.file_type

  module _ (a e : ℕ) (u : a ≡ get_or t.found.starts 1 0) (v : e ≡ get_or t.found.ends 1 0) where
    pub type_order : a ≤ e
    type_order = rw (u, v) o.at_type.order

    pub type_inside : e ≤ length s
    type_inside = rw v o.at_type.inside

    pub head_made : (h : HeaderPlaces) → h.oid ≡ get_or t.found.starts 2 0 → h.oid_end ≡ get_or t.found.ends 2 0 → (j : ℕ) → j ≡ date_number t
        → h.date ≡ get_or t.found.starts j 0 → h.date_end ≡ get_or t.found.ends j 0 → h.snapshot ≡ same (bytes "Snapshot") (part s a e) → HeadOf s t h
    head_made h x y j q i k g = let d : h.date ≡ get_or t.found.starts (date_number t) 0 = rw (← q) i in let f : h.date_end ≡ get_or t.found.ends (date_number t) 0 = rw (← q) k in record {
      oid = rw (x, y) head_oid;
      date = rw (d, f) head_date;
      snapshot = g ∙ rw (u, v) head_snapshot;
      sited = record { oid-order = rw (x, y) o.at-oid.order; oid-inside = rw y o.at-oid.inside; date-order = rw (d, f) date-at.order; date-inside = rw f date-at.inside };
    }

pub ruleset heads-made = (type_order, type_inside, head_made)

-- The last standing file, by whether there is a PriorFileOID.
follows_none : (fs : List Filed) (h : Header) → follows (last_filed fs) none h ≡ eqb (length fs) 0
follows_none fs h = go (last_filed fs) refl
  where
    go : (o : Option Filed) → last_filed fs ≡ o → follows o none h ≡ eqb (length fs) 0
    go none e = unfold follows in rw (last_none fs e)
    go (some f) e = unfold follows in sym (ne_eqb (length fs) 0 (λ z. empty fs z e))
      where
        empty : (gs : List Filed) → length gs ≡ 0 → last_filed gs ≡ some f → ⊥
        empty [] z q = let w : ◌≡◌ {A = ℕ} 0 1 = unfold last_filed in cc in omega arith
        empty (g ∷ gs) z q = omega arith

follows_some : (o : Option Filed) (prior : List ℕ) (h : Header) → follows o (some prior) h ≡ (is_last prior o and not_before o h.date and not h.snapshot)
unfolding follows is_last not_before ◌and◌
follows_some none prior h = refl
follows_some (some f) prior h = refl

module _ (s : List ℕ) (t : TagRead) (fs : List Filed) (o : OdmRead s t) (a : ℕ) (u : a ≡ get_or t.found.starts 5 0) where
  pub follows-absent : (n : ℕ) → n ≡ length fs → a ≡ 0 → eqb n 0 ≡ follows (last_filed fs) (get (bytes "PriorFileOID") (attrs_of s t)) (header_of (attrs_of s t))
  unfolding plain_at pick
  follows-absent n e absent = rw (o.prior, eq-eqb (get_or t.found.starts 5 0) 0 (sym u ∙ absent), e) (sym (follows_none fs (header_of (attrs_of s t))))

  module _ (there : a ≡ 0 → ⊥) (e : ℕ) (v : e ≡ get_or t.found.ends 5 0) where
    by_prior : follows (last_filed fs) (get (bytes "PriorFileOID") (attrs_of s t)) (header_of (attrs_of s t))
        ≡ (is_last (part s a e) (last_filed fs) and not_before (last_filed fs) (header_of (attrs_of s t)).date and not (header_of (attrs_of s t)).snapshot)
    unfolding plain_at pick
    by_prior = rw (o.prior, ne_eqb (get_or t.found.starts 5 0) 0 (λ z. there (u ∙ z)), u, v) (follows_some (last_filed fs) (stretch_at s t 5) (header_of (attrs_of s t)))

    module _ (x : Bool) (told : x ≡ is_last (part s a e) (last_filed fs)) where
      pub follows-other : not x ≡ true → false ≡ follows (last_filed fs) (get (bytes "PriorFileOID") (attrs_of s t)) (header_of (attrs_of s t))
      unfolding ◌and◌
      follows-other n = sym (by_prior ∙ rw (← told, not-true x n))

      module _ (last : not x ≡ false) (h : HeaderPlaces) (head : HeadOf s t h) (y : Bool) (dated : y ≡ not_before (last_filed fs) (part s h.date h.date_end)) where
        pub follows_earlier : not y ≡ true → false ≡ follows (last_filed fs) (get (bytes "PriorFileOID") (attrs_of s t)) (header_of (attrs_of s t))
        unfolding ◌and◌
        follows_earlier n = sym (by_prior ∙ rw (← told, not-false x last, ← head.date, ← dated, not-true y n))

        pub follows_by_type : not y ≡ false → not h.snapshot ≡ follows (last_filed fs) (get (bytes "PriorFileOID") (attrs_of s t)) (header_of (attrs_of s t))
        unfolding ◌and◌
        follows_by_type n = sym (by_prior ∙ rw (← told, not-false x last, ← head.date, ← dated, not-false y n, ← head.snapshot))

-- The date to keep and the CreationDateTime.
pub creation_date : (s : List ℕ) (t : TagRead) (h : HeaderPlaces) → OdmRead s t → HeadOf s t h → (a e : ℕ) → a ≡ get_or t.found.starts 3 0 → e ≡ get_or t.found.ends 3 0
    → (b : Bool) → b ≡ not_later (part s h.date h.date_end) (part s a e)
    → b ≡ not_later (header_of (attrs_of s t)).date (or_else [] (get (bytes "CreationDateTime") (attrs_of s t)))
unfolding or_else
creation_date s t h o head a e u v b f = f ∙ rw (← head.date, o.created, u, v)

-- The series: three tests, the first two made.
second_fails : (x y z : Bool) → x ≡ true → y ≡ false → (x and y and z) ≡ false
unfolding ◌and◌
second_fails x y z e f = rw (e, f)

third_decides : (x y z : Bool) → x ≡ true → y ≡ true → (x and y and z) ≡ z
unfolding ◌and◌
third_decides x y z e f = rw (e, f)

module _ (s : List ℕ) (t : TagRead) (fs : List Filed) (h : HeaderPlaces) (head : HeadOf s t h) where
  pub series_standing : (b : Bool) → b ≡ standing (part s h.oid h.oid_end) fs → b ≡ true → false ≡ in_series fs (attrs_of s t)
  unfolding in_series ◌and◌
  series_standing b e f = rw (← head.oid, ← e, f)

  module _ (b : Bool) (told : b ≡ standing (part s h.oid h.oid_end) fs) (new : b ≡ false) where
    is_new : not (standing (header_of (attrs_of s t)).oid fs) ≡ true
    is_new = rw (← head.oid, ← told, new)

    module _ (x : Bool) (goes : x ≡ follows (last_filed fs) (get (bytes "PriorFileOID") (attrs_of s t)) (header_of (attrs_of s t))) where
      pub series_breaks : not x ≡ true → false ≡ in_series fs (attrs_of s t)
      unfolding in_series
      series_breaks n = sym (second_fails _ _ _ is_new (sym goes ∙ not-true x n))

      pub series_dates : not x ≡ false → (y : Bool) → y ≡ not_later (header_of (attrs_of s t)).date (or_else [] (get (bytes "CreationDateTime") (attrs_of s t)))
          → y ≡ in_series fs (attrs_of s t)
      unfolding in_series
      series_dates n y f = f ∙ sym (third_decides _ _ _ is_new (sym goes ∙ not-false x n))

-- A number that a called function told.
pub told_fewer : (k m n : ℕ) → k ≡ n → k < m → n < m
told_fewer k m n e h = omega arith

pub told-most : (k m n : ℕ) → k ≡ n → m ≤ k → m ≤ n
told-most k m n e h = omega arith

pub ruleset told-numbers = (told_fewer, told-most)

-- What the ODM tag's judge answers.
misplaced : (m : Machine) (name : List ℕ) (as' : List Attr) (n : ℕ) → well_placed none 0 name as' ≡ refused n → open_odm m name as' ≡ refused n
unfolding open_odm ◌>>◌ ◌>>=◌
misplaced m name as' n e = rw e

module _ (ns bs s : List ℕ) (t : TagRead) where
  pub odm_misplaced : (k : Refusal) → refused (number_of k) ≡ well_placed (sort_at 0) 0 (name_of s t) (attrs_of s t) → Heads ns bs s t (Err k)
  unfolding sort_at pick
  odm_misplaced k told = record { is = sym (misplaced (machine_of ns bs) (name_of s t) (attrs_of s t) (number_of k) (sym told)); head = tt }

  module _ (o : OdmRead s t) where
    pub odm_broken : in_series (machine_of ns bs).files (attrs_of s t) ≡ false → Heads ns bs s t (Err Series)
    unfolding open_odm unless ◌>>◌ ◌>>=◌
    odm_broken b = record { is = rw (o.placed, b); head = tt }

    pub odm_full : in_series (machine_of ns bs).files (attrs_of s t) ≡ true → files_most ≤ length (machine_of ns bs).files → Heads ns bs s t (Err Limit)
    unfolding open_odm unless ◌>>◌ ◌>>=◌
    odm_full b k = record { is = rw (o.placed, b, le-ltb (length (machine_of ns bs).files) files_most k); head = tt }

    pub odm_heads : (h : HeaderPlaces) → HeadOf s t h → in_series (machine_of ns bs).files (attrs_of s t) ≡ true → length (machine_of ns bs).files < files_most → Heads ns bs s t (Ok h)
    unfolding open_odm unless ◌>>◌ ◌>>=◌
    odm_heads h head b k = record { is = rw (o.placed, b, lt-ltb (length (machine_of ns bs).files) files_most k); head = head }

pub ruleset odm-answers = (odm_broken, odm_full, odm_heads)
