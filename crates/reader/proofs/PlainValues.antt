-- Values of the forms that allow none of `< > & " '`: such a value is written as it is, so the stretch in the file tells all.
use mathlib.Core.Path.{◌≡◌, refl, sym, ◌∙◌}
use mathlib.Core.Bool.{Bool, true, false, not, ◌||◌, false≢true}
use mathlib.Core.List.{List, [], ◌∷◌}
use mathlib.Core.Logic.{◌⊎◌, inl, inr}
use mathlib.Core.Option.{Option, none, some}
use Prim.Native.Nat.{ℕ, ◌-◌, ◌≤◌, ◌<◌}
use native.Mathlib.Omega.{arith}
use lib.Dec.{eqb, leb, ltb, lit<}
use lib.ListN.{length, get_or}
use borrow.Author.Tests.{eqb-true, ltb-true, not-true, leb-true, eq-eqb, ne_eqb}
use Rattle.names.specs.Bytes.{bytes, ch, all, any}
use Rattle.names.specs.Class.{is_markup, is_name_byte}
use Rattle.names.specs.Date.{is_date}
use Rattle.names.specs.Name.{is_name, is_long_name, is_name_of, is_value}
use Rattle.names.specs.Order.{same, begins}
use Rattle.names.specs.Pick.{pick, ◌and◌}
use Rattle.names.specs.Text.{Written, written, escapes, entities, first_of, piece_at, in_front, decoded_by, decode_from, decode}
use Rattle.names.proofs.ClassLaws.{name_not_markup}
use Rattle.names.proofs.DateLaws.{is_date_byte, date-bytes, date_not_markup, day-bytes}
use Rattle.names.proofs.NumberLaws.{number-bytes}
use Rattle.names.proofs.Ordered.{same_eq}
use Rattle.names.proofs.Tests.{and_l, and_r, or_true, not_then, at-below}
use Rattle.store.specs.Word.{insert, update, upsert, remove, context, word_text}
use Rattle.reader.specs.Element.{Form, namespace, file_type, long_name, date, version, description, name, word, value, yes, integer, float, day, elements, element_at, attribute_at, words, has_form, get, formed_by}
use Rattle.reader.specs.code.Found.{attribute_value, attrs_of}
use Rattle.reader.specs.code.Places.{part, is_some}
use Rattle.reader.specs.declared.cursor.TagRead.{TagRead}
use Rattle.reader.proofs.Forms.{formed-at}
use Rattle.reader.specs.code.Placed.{Placed}
use Rattle.reader.specs.code.Answered.{Attributed, plain_at}
use Rattle.reader.specs.code.Values.{Stretches, is_plain_form, row_at, plain_form}
use Rattle.reader.proofs.AttrList.{has-get}

-- An entity that was found stands for one of the five marks.
found_mark : (es : List Written) (s : List ℕ) (w : Written) → all (λ x. is_markup x.byte) es ≡ true → first_of es s ≡ some w → is_markup w.byte ≡ true
unfolding first_of all pick
found_mark [] s w a e = cc
found_mark (x ∷ es) s w a e = go (begins eqb x.text s) (found_mark es s w (and_r (is_markup x.byte) _ a)) e
  where
    go : (b : Bool) → (first_of es s ≡ some w → is_markup w.byte ≡ true) → pick b (some x) (first_of es s) ≡ some w → is_markup w.byte ≡ true
    go true ih f = let z : x ≡ w = cc in rw (← z) (and_l (is_markup x.byte) _ a)
    go false ih f = ih f

marks_only : all (λ (x : Written). is_markup x.byte) entities ≡ true
unfolding all entities escapes is_markup ◌and◌
marks_only = refl

-- What stands behind a first byte that was put in front.
behind-front : (c : ℕ) (o : Option (List ℕ)) (w : List ℕ) → in_front c o ≡ some w → (u : List ℕ) × (o ≡ some u) × (w ≡ c ∷ u)
unfolding in_front
behind-front c none w e = let z : ◌≡◌ {A = ℕ} 0 1 = cc in absurd (omega arith)
behind-front c (some u) w e = (u, refl, cc)

-- A written value stands for itself, or both it and what it stands for have a mark.
abbrev Marked : List ℕ → List ℕ → Type 0
Marked v w = (any is_markup v ≡ true) × (any is_markup w ≡ true)

plain_or_marked : (v w : List ℕ) → decode v ≡ some w → (w ≡ v) ⊎ Marked v w
unfolding decode decode_from piece_at any
plain_or_marked [] w e = inl cc
plain_or_marked (c ∷ s) w e = go (eqb c (ch "&")) refl e (plain_or_marked s)
  where
    entity : (o : Option Written) → first_of entities (c ∷ s) ≡ o → eqb c (ch "&") ≡ true → decoded_by o (λ n. decode_from n s) ≡ some w → (w ≡ c ∷ s) ⊎ Marked (c ∷ s) w
    entity none p q f = let z : ◌≡◌ {A = ℕ} 0 1 = unfold decoded_by in cc in absurd (omega arith)
    entity (some x) p q f =
        let b = behind-front x.byte (decode_from (length x.text - 1) s) w (unfold decoded_by in f) in
        inr ((rw (eqb-true c (ch "&") q) (unfold is_markup in refl)), rw (b.2, found_mark entities (c ∷ s) x marks_only p))

    go : (t : Bool) → eqb c (ch "&") ≡ t → decoded_by (pick t (first_of entities (c ∷ s)) (some (written (c ∷ []) c))) (λ n. decode_from n s) ≡ some w
        → ((u : List ℕ) → decode s ≡ some u → (u ≡ s) ⊎ Marked s u) → (w ≡ c ∷ s) ⊎ Marked (c ∷ s) w
    go true q f ih = entity (first_of entities (c ∷ s)) refl q (unfold pick in f)
    go false q f ih =
        let b = behind-front c (decode_from 0 s) w (unfold pick decoded_by in f) in
        after b.0 b.2 (ih b.0 b.1)
      where
        after : (u : List ℕ) → w ≡ c ∷ u → (u ≡ s) ⊎ Marked s u → (w ≡ c ∷ s) ⊎ Marked (c ∷ s) w
        after u g (inl h) = inl (rw (g, h))
        after u g (inr h) = inr (rw h.0 (or_true (is_markup c)), rw (g, h.1) (or_true (is_markup c)))

-- A test that no marked text passes says the same of a written value and of what it stands for.
module _ (p : List ℕ → Bool) (unmarked : (x : List ℕ) → p x ≡ true → any is_markup x ≡ false) (v w : List ℕ) (d : decode v ≡ some w) where
  pub test_decoded : p w ≡ p v
  test_decoded = go (plain_or_marked v w d)
    where
      fails : (x : List ℕ) → any is_markup x ≡ true → p x ≡ false
      fails x m = not_then (p x) (λ e. false≢true (sym (unmarked x e) ∙ m))

      go : (w ≡ v) ⊎ Marked v w → p w ≡ p v
      go (inl e) = rw e
      go (inr m) = fails w m.1 ∙ sym (fails v m.0)

  pub plain-decoded : p w ≡ true → w ≡ v
  plain-decoded h = go (plain_or_marked v w d)
    where
      go : (w ≡ v) ⊎ Marked v w → w ≡ v
      go (inl e) = e
      go (inr m) = absurd (false≢true (sym (unmarked w h) ∙ m.1))

-- No marked text has one of these forms.
all_unmarked : (p : ℕ → Bool) → ((c : ℕ) → p c ≡ true → is_markup c ≡ false) → (x : List ℕ) → all p x ≡ true → any is_markup x ≡ false
unfolding all any
all_unmarked p h [] e = refl
all_unmarked p h (c ∷ x) e = rw (h c (and_l (p c) _ e)) (all_unmarked p h x (and_r (p c) _ e))

name_unmarked : (most : ℕ) (x : List ℕ) → is_name_of most x ≡ true → any is_markup x ≡ false
unfolding is_name_of
name_unmarked most x e = all_unmarked is_name_byte name_not_markup x (and_r (leb (length x) most) _ (and_r (leb 1 (length x)) _ e))

text_unmarked : (t x : List ℕ) → any is_markup t ≡ false → same t x ≡ true → any is_markup x ≡ false
text_unmarked t x h e = rw (← same_eq t x e) h

date_unmarked : (x : List ℕ) → is_date x ≡ true → any is_markup x ≡ false
date_unmarked x e = all_unmarked is_date_byte date_not_markup x (date-bytes x e)

or_either : {P : Type 0} (a b : Bool) → (a ≡ true → P) → (b ≡ true → P) → (a || b) ≡ true → P
or_either true b f g e = f refl
or_either false b f g e = g e

some_unmarked : (ts : List (List ℕ)) (x : List ℕ) → all (λ t. not (any is_markup t)) ts ≡ true → any (λ t. same t x) ts ≡ true → any is_markup x ≡ false
unfolding all
some_unmarked [] x h e = unfold any in absurd (false≢true e)
some_unmarked (t ∷ ts) x h e =
    or_either (same t x) (any (λ t. same t x) ts) (λ f. text_unmarked t x (not-true (any is_markup t) (and_l (not (any is_markup t)) _ h)) f)
    (λ f. some_unmarked ts x (and_r (not (any is_markup t)) _ h) f) (unfold any in e)

pub form_unmarked : (f : Form) → is_plain_form f ≡ true → (x : List ℕ) → has_form f x ≡ true → any is_markup x ≡ false
unfolding is_plain_form has_form
form_unmarked namespace p x e = text_unmarked (bytes "http://www.cdisc.org/ns/odm/v1.3") x (unfold any is_markup in refl) e
form_unmarked file_type p x e =
    or_either (same (bytes "Snapshot") x) (same (bytes "Transactional") x)
    (λ f. text_unmarked (bytes "Snapshot") x (unfold any is_markup in refl) f) (λ f. text_unmarked (bytes "Transactional") x (unfold any is_markup in refl) f) e
form_unmarked long_name p x e = name_unmarked 64 x (unfold is_long_name in e)
form_unmarked date p x e = date_unmarked x e
form_unmarked version p x e = text_unmarked (bytes "1.3.2") x (unfold any is_markup in refl) e
form_unmarked description p x e = absurd (false≢true p)
form_unmarked name p x e = name_unmarked 16 x (unfold is_name in e)
form_unmarked word p x e =
    some_unmarked (word_text insert ∷ word_text update ∷ word_text upsert ∷ word_text remove ∷ word_text context ∷ []) x (unfold word_text all any is_markup ◌and◌ in refl) (unfold any words in e)
form_unmarked value p x e = absurd (false≢true p)
form_unmarked yes p x e = text_unmarked (bytes "Yes") x (unfold any is_markup in refl) e
form_unmarked integer p x e = all_unmarked is_name_byte name_not_markup x (number-bytes false x e)
form_unmarked float p x e = all_unmarked is_name_byte name_not_markup x (number-bytes true x e)
form_unmarked day p x e = all_unmarked is_name_byte name_not_markup x (day-bytes x e)

-- A present value of such a form is its stretch.
module _ (f : Form) (is_plain : is_plain_form f ≡ true) where
  pub plain_form_lem : (v : List ℕ) (t : Bool) → is_some (decode v) ≡ true → t ≡ has_form f v → t ≡ formed_by f (decode v)
  plain_form_lem v t d e = go (decode v) refl d
    where
      go : (o : Option (List ℕ)) → decode v ≡ o → is_some o ≡ true → t ≡ formed_by f o
      go none q h = absurd (false≢true (unfold is_some in h))
      go (some w) q h = unfold formed_by in (e ∙ sym (test_decoded (has_form f) (form_unmarked f is_plain) v w q))

  pub plain-stretch : (v : List ℕ) → is_some (decode v) ≡ true → formed_by f (decode v) ≡ true → decode v ≡ some v
  plain-stretch v d e = go (decode v) refl d e
    where
      go : (o : Option (List ℕ)) → decode v ≡ o → is_some o ≡ true → formed_by f o ≡ true → o ≡ some v
      go none q h k = absurd (false≢true (unfold is_some in h))
      go (some w) q h k = rw (plain-decoded (has_form f) (form_unmarked f is_plain) v w q (unfold formed_by in k))

-- A value that is there can be decoded.
module _ (s : List ℕ) (t : TagRead) (w : Attributed s t) where
  abbrev from : ℕ → ℕ
  from j = get_or t.found.starts j 0

  abbrev to : ℕ → ℕ
  to j = get_or t.found.ends j 0

  value_there : (j : ℕ) → j < 8 → (from j ≡ 0 → ⊥) → get (attribute_at t.element j) (attrs_of s t) ≡ decode (part s (from j) (to j))
  unfolding attribute_value pick
  value_there j h n = w.holds.values j h ∙ rw (ne_eqb (from j) 0 n)

  value-fine : (j : ℕ) → j < 8 → (from j ≡ 0 → ⊥) → is_some (decode (part s (from j) (to j))) ≡ true
  value-fine j h n = rw (← value_there j h n) (sym (has-get (attribute_at t.element j) (attrs_of s t)) ∙ w.holds.there j h ∙ rw (ne_eqb (from j) 0 n))

  pub found_stretches : Stretches s t.found
  found_stretches = record { at = λ j h. record { order = w.holds.order j h; inside = w.holds.inside j h; fine = value-fine j h } }

pub rows_short : (e : ℕ) → e < 12 → length (element_at e).attributes ≤ 8
rows_short e h =
    leb-true (length (element_at e).attributes) 8
    (at-below 12 (λ e. leb (length (element_at e).attributes) 8) (unfold element_at elements ◌and◌ in refl) e h)

-- What the reader may take from a tag that was accepted.
module _ (s : List ℕ) (t : TagRead) (w : Attributed s t) (passed : Placed t.element (attrs_of s t)) where
  -- A value of a plain form is the bytes that stand in the file.
  plain-is : (j : ℕ) → plain_form t.element j ≡ true → get (attribute_at t.element j) (attrs_of s t) ≡ plain_at s t j
  plain-is j p = go (eqb (from s t w j) 0) refl
    where
      test : (ltb j (length (element_at t.element).attributes) and is_plain_form (row_at t.element j).form) ≡ true
      test = unfold plain_form in p

      is_row : j < length (element_at t.element).attributes
      is_row = ltb-true j _ (and_l (ltb j (length (element_at t.element).attributes)) _ test)

      inside : j < 8
      inside = omega (arith, is_row, rows_short t.element passed.deep)

      is-formed : formed_by (row_at t.element j).form (get (attribute_at t.element j) (attrs_of s t)) ≡ true
      is-formed = formed-at t.element (attrs_of s t) passed j (row_at t.element j).form is_row (unfold row_at in refl)

      go : (b : Bool) → eqb (from s t w j) 0 ≡ b → get (attribute_at t.element j) (attrs_of s t) ≡ plain_at s t j
      go true e = w.holds.values j inside ∙ unfold attribute_value plain_at pick in rw e
      go false e =
          let n : from s t w j ≡ 0 → ⊥ = λ z. false≢true (sym e ∙ eq-eqb (from s t w j) 0 z) in
          let v = value_there s t w j inside n in
          v ∙ plain-stretch (row_at t.element j).form (and_r (ltb j (length (element_at t.element).attributes)) _ test) (part s (from s t w j) (to s t w j))
          (value-fine s t w j inside n) (rw (← v) is-formed) ∙ unfold plain_at pick in rw e

pub plain_value : (s : List ℕ) (e j : ℕ) (t : TagRead) → t.element ≡ e → Attributed s t → Placed t.element (attrs_of s t)
    → plain_form e j ≡ true → get (attribute_at e j) (attrs_of s t) ≡ plain_at s t j
plain_value s e j t row w passed p = rw (← row) (plain-is s t w passed j (rw row p))

-- All of ODM's values but Description are of such forms.
pub plain-header : (j : ℕ) → j < 7 → plain_form 0 j ≡ true
unfolding plain_form row_at is_plain_form element_at elements ◌and◌
plain-header j h = at-below 7 (λ j. plain_form 0 j) refl j h

-- An item's decoded value is a value.
module _ (s : List ℕ) (t : TagRead) (row : t.element ≡ 6) (w : Attributed s t) (passed : Placed t.element (attrs_of s t)) where
  pub value-fits : (get_or t.found.starts 1 0 ≡ 0 → ⊥)
      → (v : List ℕ) × (decode (part s (get_or t.found.starts 1 0) (get_or t.found.ends 1 0)) ≡ some v) × (is_value v ≡ true)
  unfolding element_at elements formed_by has_form
  value-fits n = go (decode (part s (from s t w 1) (to s t w 1))) refl
    where
      go : (o : Option (List ℕ)) → decode (part s (from s t w 1) (to s t w 1)) ≡ o
          → (v : List ℕ) × (decode (part s (from s t w 1) (to s t w 1)) ≡ some v) × (is_value v ≡ true)
      go none e = absurd (false≢true (unfold is_some in (rw e at (value-fine s t w 1 (lit< tt) n))))
      go (some v) e =
          let f : formed_by value (get (attribute_at t.element 1) (attrs_of s t)) ≡ true =
          formed-at t.element (attrs_of s t) passed 1 value (rw row (lit< tt)) (rw row) in
          let g : formed_by value (some v) ≡ true = rw (value_there s t w 1 (lit< tt) n ∙ e) at f in
          (v, e, g)
