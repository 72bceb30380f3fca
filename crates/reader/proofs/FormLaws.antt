-- The forms of a tag's values: one value after another, and what the reader knows of their stretches.
use mathlib.Core.Path.{◌≡◌, refl, sym, ap, ◌∙◌}
use mathlib.Core.Bool.{Bool, true, false, not, ◌||◌, false≢true}
use mathlib.Core.List.{List, [], ◌∷◌}
use mathlib.Core.Option.{Option, none, some}
use Prim.Native.Nat.{ℕ, zero, suc, ◌+◌, ◌-◌, ◌*◌, ◌≤◌, ◌<◌}
use native.Mathlib.Numerals.{add-one}
use native.Mathlib.Omega.{arith}
use lib.Dec.{eqb, leb}
use lib.ListN.{length, get_or, take, drop, drop_of_length-le}
use lib.Seq.{drop-drop}
use borrow.Author.Tests.{leb-true, le-leb, lt-leb, eq-eqb, ne_eqb, not-true, not-false}
use Rattle.names.specs.Bytes.{bytes, ch, all}
use Rattle.names.specs.Class.{is_value_byte}
use Rattle.names.specs.Date.{is_date, is_day_text}
use Rattle.names.specs.Name.{is_name, is_long_name, is_text_of, is_value}
use Rattle.names.specs.Number.{is_number}
use Rattle.names.specs.Order.{same, begins}
use Rattle.names.specs.Pick.{pick, ◌and◌}
use Rattle.names.specs.code.Decoding.{Fitted, holds, too_long, broken, fitted, decoded_in, DecodesWithin}
use Rattle.names.specs.Text.{piece_at, in_front, decoded_by, decode_from, decode, Written, written, escapes, entities, first_of}
use Rattle.names.specs.declared.text.DecodeError.{DecodeError}
use Rattle.names.specs.declared.text.DecodeError.TheVariants.{TooLong, Broken}
use Rattle.std.specs.Prelude.{Result, Ok, Err}
use Rattle.names.proofs.Tests.{at-below, and_l, and_r, all_implied}
use Rattle.names.proofs.PickLaws.{pick_lt, pick_nlt, pick_eq, pick_ne}
use Rattle.reader.specs.Element.{Form, namespace, file_type, long_name, date, version, description, name, word, value, yes, integer, float, day, elements, element_at, has_form, formed_by}
use Rattle.reader.specs.code.ElementNames.{form_number, form_numbered, code_in, slot_code}
use Rattle.reader.specs.code.Places.{part, is_some}
use Rattle.reader.specs.declared.attributes.Found.{Found}
use Rattle.reader.specs.code.Values.{literal_of, value_in, text_fits, stands_alone, forms_of, formed_from, is_plain_form, required_there}
use Rattle.reader.proofs.PlainValues.{plain_form_lem}

decoded-form : (f : Form) (most : ℕ) → ((w : List ℕ) → is_text_of most w ≡ has_form f w) → (v : List ℕ) (t : Bool) → t ≡ text_fits most (decode v) → is_some (decode v) ≡ true
    → t ≡ formed_by f (decode v)
unfolding text_fits formed_by is_some
decoded-form f most is v t e d = go (decode v) e d
  where
    go : (o : Option (List ℕ)) → t ≡ text_fits most o → is_some o ≡ true → t ≡ formed_by f o
    go none e d = absurd (false≢true d)
    go (some w) e d = e ∙ is w

-- A value of some stretch has its form: it is absent, or its bytes tell.
pub formed-absent : (f : Form) (s : List ℕ) (a e : ℕ) → a ≡ 0 → true ≡ formed_by f (value_in s a e)
unfolding value_in pick formed_by
formed-absent f s a e h = rw (eq-eqb a 0 h)

pub formed-there : (f : Form) (s : List ℕ) (a e : ℕ) (t : Bool) → (a ≡ 0 → ⊥) → t ≡ formed_by f (decode (part s a e)) → t ≡ formed_by f (value_in s a e)
unfolding value_in pick
formed-there f s a e t h m = rw (ne_eqb a 0 h) m

pub ruleset formed-cases = (formed-absent, formed-there)

-- The decoder's answers.
pub decoded-inside : (room n : ℕ) (r : Result ℕ DecodeError) → DecodesWithin room r → r ≡ Ok n → n ≤ room
decoded-inside room n r w e = rw e at w

module _ (most : ℕ) (v out : List ℕ) (r : Result ℕ DecodeError) (made : decoded_in out r ≡ fitted most (decode v)) where
  pub fits-held : (n : ℕ) (t : Bool) → r ≡ Ok n → t ≡ is_text_of most (take (n - 0) (drop 0 out)) → t ≡ text_fits most (decode v)
  unfolding text_fits
  fits-held n t q g = go (decode v) (rw q at made)
    where
      held : (w : List ℕ) (b : Bool) → holds (take n out) ≡ pick b (holds w) too_long → take n out ≡ w
      held w true e = unfold pick in cc
      held w false e = let z : ◌≡◌ {A = ℕ} 0 1 = unfold pick in cc in absurd (omega arith)

      go : (o : Option (List ℕ)) → holds (take n out) ≡ fitted most o → t ≡ text_fits most o
      go none e = let z : ◌≡◌ {A = ℕ} 0 1 = unfold fitted in cc in absurd (omega arith)
      go (some w) e = let z : n - 0 ≡ n = omega arith in g ∙ rw (z, held w (leb (length w) most) (unfold fitted in e))

  not_held : (x : Fitted) → decoded_in out r ≡ x → ((w : List ℕ) → x ≡ holds w → ⊥) → false ≡ text_fits most (decode v)
  unfolding text_fits fitted
  not_held x q n = go (decode v) (sym q ∙ made)
    where
      long : (w : List ℕ) (b : Bool) → leb (length w) most ≡ b → x ≡ pick b (holds w) too_long → false ≡ is_text_of most w
      long w true p e = absurd (n w (unfold pick in e))
      long w false p e = unfold is_text_of ◌and◌ in rw p

      go : (o : Option (List ℕ)) → x ≡ fitted most o → false ≡ text_fits most o
      go none e = refl
      go (some w) e = long w (leb (length w) most) refl e

  pub fits_not : (e : DecodeError) → r ≡ Err e → false ≡ text_fits most (decode v)
  fits_not TooLong q = not_held too_long (rw q) (λ w e. let z : ◌≡◌ {A = ℕ} 0 1 = cc in omega arith)
  fits_not Broken q = not_held broken (rw q) (λ w e. let z : ◌≡◌ {A = ℕ} 0 1 = cc in omega arith)

pub ruleset fits-cases = (fits-held, fits_not)

-- A value without an entity stands for itself.
pub alone_decoded : (v : List ℕ) → all stands_alone v ≡ true → decode v ≡ some v
unfolding all stands_alone decode decode_from piece_at decoded_by in_front pick
alone_decoded [] a = refl
alone_decoded (c ∷ v) a =
    let p = and_l _ _ a in
    let other : eqb c (ch "&") ≡ false = not-true _ (and_l _ _ p) in
    rw (other, alone_decoded v (and_r _ _ a))

alone_text : (v : List ℕ) → all stands_alone v ≡ true → all is_value_byte v ≡ true
unfolding stands_alone
alone_text v a = all_implied stands_alone is_value_byte (λ c e. and_r (not (eqb c (ch "&"))) (is_value_byte c) e) v a

pub alone_fits : (v : List ℕ) (most : ℕ) (t : Bool) → length v ≤ most → t ≡ all stands_alone v → t ≡ true → true ≡ text_fits most (decode v)
unfolding text_fits is_text_of ◌and◌
alone_fits v most t h e f =
    let a : all stands_alone v ≡ true = sym e ∙ f in
    rw (alone_decoded v a, le-leb (length v) most h, alone_text v a)

-- A decoded byte is written in at most six.
found_short : (es : List Written) (s : List ℕ) (w : Written) → all (λ x. leb (length x.text) 6) es ≡ true → first_of es s ≡ some w → length w.text ≤ 6
unfolding first_of all pick
found_short [] s w a e = let z : ◌≡◌ {A = ℕ} 0 1 = cc in absurd (omega arith)
found_short (x ∷ es) s w a e = go (begins eqb x.text s) (found_short es s w (and_r (leb (length x.text) 6) _ a)) e
  where
    go : (b : Bool) → (first_of es s ≡ some w → length w.text ≤ 6) → pick b (some x) (first_of es s) ≡ some w → length w.text ≤ 6
    go true ih f = let z : x ≡ w = cc in rw (← z) (leb-true (length x.text) 6 (and_l (leb (length x.text) 6) _ a))
    go false ih f = ih f

piece_short : (c : ℕ) (s : List ℕ) (w : Written) → piece_at c s ≡ some w → length w.text ≤ 6
unfolding piece_at
piece_short c s w e = go (eqb c (ch "&")) e
  where
    go : (b : Bool) → pick b (first_of entities (c ∷ s)) (some (written (c ∷ []) c)) ≡ some w → length w.text ≤ 6
    go true f = found_short entities (c ∷ s) w (unfold all entities escapes ◌and◌ in refl) (unfold pick in f)
    go false f = let z : written (c ∷ []) c ≡ w = unfold pick in cc in rw (← z) (omega arith)

pub decoded-size : (n : ℕ) (s v : List ℕ) → n ≤ 5 → decode_from n s ≡ some v → length s ≤ n + 6 * length v
unfolding decode_from
decoded-size n [] v h e = omega arith
decoded-size (suc n) (c ∷ s) v h e = let k = decoded-size n s v (omega arith) e in omega arith
decoded-size zero (c ∷ s) v h e = go (piece_at c s) refl e (λ n. decoded-size n s)
  where
    front : (b : ℕ) (o : Option (List ℕ)) (k : ℕ) → k ≤ 5 → decode_from k s ≡ o → in_front b o ≡ some v
        → ((n : ℕ) (u : List ℕ) → n ≤ 5 → decode_from n s ≡ some u → length s ≤ n + 6 * length u) → suc (length s) ≤ 0 + 6 * length v
    front b none k h q f ih = let z : ◌≡◌ {A = ℕ} 0 1 = unfold in_front in cc in absurd (omega arith)
    front b (some u) k h q f ih =
        let z : b ∷ u ≡ v = unfold in_front in cc in
        let l : suc (length u) ≡ length v = ap length z in
        let i = ih k u h q in
        omega arith

    go : (o : Option Written) → piece_at c s ≡ o → decoded_by o (λ n. decode_from n s) ≡ some v
        → ((n : ℕ) (u : List ℕ) → n ≤ 5 → decode_from n s ≡ some u → length s ≤ n + 6 * length u) → suc (length s) ≤ 0 + 6 * length v
    go none p f ih = let z : ◌≡◌ {A = ℕ} 0 1 = unfold decoded_by in cc in absurd (omega arith)
    go (some w) p f ih =
        let k = piece_short c s w p in
        front w.byte (decode_from (length w.text - 1) s) (length w.text - 1) (omega arith) refl (unfold decoded_by in f) ih

pub long_unfit : (v : List ℕ) (most : ℕ) → 6 * most < length v → false ≡ text_fits most (decode v)
unfolding text_fits decode is_text_of ◌and◌
long_unfit v most h = go (decode_from 0 v) refl
  where
    go : (o : Option (List ℕ)) → decode_from 0 v ≡ o → false ≡ text_fits most o
    go none e = refl
    go (some w) e = let k = decoded-size 0 v w (omega arith) e in rw (lt-leb (length w) most (omega arith))

-- The texts of a form's number, at each arm of the code's match.
module _ (form : ℕ) (v : List ℕ) (t : Bool) where
  pub literal_namespace : form ≡ 1 → t ≡ same (bytes "http://www.cdisc.org/ns/odm/v1.3") v → t ≡ literal_of form v
  unfolding literal_of pick
  literal_namespace e f = rw e f

  pub literal_snapshot : form ≡ 2 → t ≡ same (bytes "Snapshot") v → t ≡ true → t ≡ literal_of form v
  unfolding literal_of pick
  literal_snapshot e f y = rw e (rw (← f, y) refl)

  pub literal_transactional : form ≡ 2 → (x : Bool) → x ≡ same (bytes "Snapshot") v → x ≡ false → t ≡ same (bytes "Transactional") v → t ≡ literal_of form v
  unfolding literal_of pick
  literal_transactional e x f n g = rw e (rw (← f, n) g)

  pub literal_version : form ≡ 5 → t ≡ same (bytes "1.3.2") v → t ≡ literal_of form v
  unfolding literal_of pick
  literal_version e f = rw e f

  pub literal_yes : (form ≡ 1 → ⊥) → (form ≡ 2 → ⊥) → (form ≡ 5 → ⊥) → t ≡ same (bytes "Yes") v → t ≡ literal_of form v
  unfolding literal_of pick
  literal_yes k l m f = rw (ne_eqb form 1 k, ne_eqb form 2 l, ne_eqb form 5 m) f

pub ruleset literals = (literal_namespace, literal_snapshot, literal_transactional, literal_version, literal_yes)

-- All but two are plain.
plain-pick : (b : Bool) (f g : Form) → is_plain_form f ≡ true → is_plain_form g ≡ true → is_plain_form (pick b f g) ≡ true
unfolding pick
plain-pick true f g p q = p
plain-pick false f g p q = q

plain-behind : (f g : Form) → is_plain_form g ≡ true → is_plain_form (pick false f g) ≡ true
unfolding pick
plain-behind f g p = p

number-plain : (k : ℕ) → (k ≡ 6 → ⊥) → (k ≡ 9 → ⊥) → is_plain_form (form_numbered k) ≡ true
unfolding form_numbered is_plain_form
number-plain k n m =
    rw (ne_eqb k 6 n, ne_eqb k 9 m)
    (plain-pick _ _ _ refl (plain-pick _ _ _ refl (plain-pick _ _ _ refl (plain-pick _ _ _ refl (plain-pick _ _ _ refl
    (plain-behind _ _ (plain-pick _ _ _ refl (plain-pick _ _ _ refl (plain-behind _ _ (plain-pick _ _ _ refl (plain-pick _ _ _ refl (plain-pick _ _ _ refl refl))))))))))))

-- A form by its number, at each arm of the code's match.
module _ (form : ℕ) (v : List ℕ) (t : Bool) where
  pub form-long-name : form ≡ 3 → t ≡ is_long_name v → t ≡ has_form (form_numbered form) v
  unfolding form_numbered pick has_form
  form-long-name e f = rw e f

  pub form-date : form ≡ 4 → t ≡ is_date v → t ≡ has_form (form_numbered form) v
  unfolding form_numbered pick has_form
  form-date e f = rw e f

  pub form-description : form ≡ 6 → t ≡ is_text_of 64 v → t ≡ has_form (form_numbered form) v
  unfolding form_numbered pick has_form
  form-description e f = rw e f

  pub form-name : form ≡ 7 → t ≡ is_name v → t ≡ has_form (form_numbered form) v
  unfolding form_numbered pick has_form
  form-name e f = rw e f

  pub form-word : form ≡ 8 → t ≡ has_form word v → t ≡ has_form (form_numbered form) v
  unfolding form_numbered pick
  form-word e f = rw e f

  pub form-value : form ≡ 9 → t ≡ is_value v → t ≡ has_form (form_numbered form) v
  unfolding form_numbered pick has_form
  form-value e f = rw e f

  pub form-integer : form ≡ 11 → t ≡ is_number false v → t ≡ has_form (form_numbered form) v
  unfolding form_numbered pick has_form
  form-integer e f = rw e f

  pub form-float : form ≡ 12 → t ≡ is_number true v → t ≡ has_form (form_numbered form) v
  unfolding form_numbered pick has_form
  form-float e f = rw e f

  pub form-day : form ≡ 13 → t ≡ is_day_text v → t ≡ has_form (form_numbered form) v
  unfolding form_numbered pick has_form
  form-day e f = rw e f

  pub form_literal : (form ≡ 3 → ⊥) → (form ≡ 4 → ⊥) → (form ≡ 6 → ⊥) → (form ≡ 7 → ⊥) → (form ≡ 8 → ⊥) → (form ≡ 9 → ⊥) → (form ≡ 11 → ⊥) → (form ≡ 12 → ⊥)
      → (form ≡ 13 → ⊥) → t ≡ literal_of form v → t ≡ has_form (form_numbered form) v
  form_literal a b c d e f g h i told =
      told
      ∙ (unfold literal_of form_numbered in
      rw (
        ne_eqb form 3 a,
        ne_eqb form 4 b,
        ne_eqb form 6 c,
        ne_eqb form 7 d,
        ne_eqb form 8 e,
        ne_eqb form 9 f,
        ne_eqb form 11 g,
        ne_eqb form 12 h,
        ne_eqb form 13 i,
      )
      (texts (eqb form 1) (eqb form 2) (eqb form 5)))
    where
      texts : (a b c : Bool)
          → pick a (same (bytes "http://www.cdisc.org/ns/odm/v1.3") v)
          (pick b (same (bytes "Snapshot") v || same (bytes "Transactional") v) (pick c (same (bytes "1.3.2") v) (same (bytes "Yes") v)))
          ≡ has_form (pick a namespace (pick b file_type (pick false long_name (pick false date (pick c version
          (pick false description (pick false name (pick false word (pick false value (pick false integer (pick false float (pick false day yes)))))))))))) v
      texts true b c = unfold pick has_form in refl
      texts false true c = unfold pick has_form in refl
      texts false false true = unfold pick has_form in refl
      texts false false false = unfold pick has_form in refl

pub ruleset form-arms = (form-long-name, form-date, form-description, form-name, form-word, form-value, form-integer, form-float, form-day, form_literal)

-- The same of the bytes in the file: two forms are told by what they stand for.
module _ (form : ℕ) (v : List ℕ) (t : Bool) (d : is_some (decode v) ≡ true) where
  pub written-description : form ≡ 6 → t ≡ text_fits 64 (decode v) → t ≡ formed_by (form_numbered form) (decode v)
  unfolding form_numbered pick has_form
  written-description e f = rw e (decoded-form description 64 (λ w. refl) v t f d)

  pub written-value : form ≡ 9 → t ≡ text_fits 40 (decode v) → t ≡ formed_by (form_numbered form) (decode v)
  unfolding form_numbered pick has_form is_value
  written-value e f = rw e (decoded-form value 40 (λ w. refl) v t f d)

  pub written-plain : (form ≡ 6 → ⊥) → (form ≡ 9 → ⊥) → t ≡ has_form (form_numbered form) v → t ≡ formed_by (form_numbered form) (decode v)
  written-plain n m f = plain_form_lem (form_numbered form) (number-plain form n m) v t d f

  pub written-name : t ≡ is_name v → form ≡ 7 → t ≡ formed_by (form_numbered form) (decode v)
  written-name f e = written-plain (λ q. omega arith) (λ q. omega arith) (f ∙ (unfold form_numbered has_form pick in rw e))

pub ruleset written-arms = (written-description, written-name, written-value, written-plain)

-- A form by its number.
pub number-form : (x : Form) → form_numbered (form_number x) ≡ x
unfolding form_number form_numbered pick
number-form namespace = refl
number-form file_type = refl
number-form long_name = refl
number-form date = refl
number-form version = refl
number-form description = refl
number-form name = refl
number-form word = refl
number-form value = refl
number-form yes = refl
number-form integer = refl
number-form float = refl
number-form day = refl

pub code_some : (x : Form) → form_number x ≡ 0 → ⊥
unfolding form_number
code_some namespace e = omega arith
code_some file_type e = omega arith
code_some long_name e = omega arith
code_some date e = omega arith
code_some version e = omega arith
code_some description e = omega arith
code_some name e = omega arith
code_some word e = omega arith
code_some value e = omega arith
code_some yes e = omega arith
code_some integer e = omega arith
code_some float e = omega arith
code_some day e = omega arith

module _ (s : List ℕ) (f : Found) where
  formed_none : (xs : List Form) (j : ℕ) → code_in xs ≡ 0 → true ≡ formed_from xs j s f
  unfolding code_in formed_from
  formed_none [] j e = refl
  formed_none (x ∷ xs) j e = absurd (code_some x e)

  formed_step : (xs : List Form) (j : ℕ) (l : List Form) → drop j l ≡ xs → (code_in xs ≡ 0 → ⊥)
      → formed_from xs j s f ≡ (formed_by (form_numbered (code_in xs)) (value_in s (get_or f.starts j 0) (get_or f.ends j 0)) and formed_from (drop (j + 1) l) (j + 1) s f)
  unfolding code_in formed_from
  formed_step [] j l e n = absurd (n refl)
  formed_step (x ∷ xs) j l e n = let y : drop (j + 1) l ≡ xs = sym (drop-drop 1 j l) ∙ ap (drop 1) e in rw (y, number-form x, add-one)

forms_few : (e : ℕ) → e < 12 → length (forms_of e) ≤ 8
forms_few e h = leb-true (length (forms_of e)) 8 (at-below 12 (λ e. leb (length (forms_of e)) 8) (unfold forms_of element_at elements ◌and◌ in refl) e h)

module _ (e : ℕ) (s : List ℕ) (f : Found) where
  module _ (j : ℕ) (i : formed_from (forms_of e) 0 s f ≡ formed_from (drop j (forms_of e)) j s f) where
    pub formed-end : e < 12 → 8 ≤ j → true ≡ formed_from (forms_of e) 0 s f
    unfolding formed_from
    formed-end h l = let r = forms_few e h in sym (i ∙ rw (drop_of_length-le (forms_of e) {i = j} (omega arith)))

    module _ (code : ℕ) (is : code ≡ slot_code e (suc j)) where
      pub formed_stop : code ≡ 0 → true ≡ formed_from (forms_of e) 0 s f
      unfolding slot_code
      formed_stop z = formed_none s f (drop j (forms_of e)) j (sym is ∙ z) ∙ sym i

      module _ (n : code ≡ 0 → ⊥) (t : Bool) (told : t ≡ formed_by (form_numbered code) (value_in s (get_or f.starts j 0) (get_or f.ends j 0))) where
        one_more_lem : formed_from (forms_of e) 0 s f ≡ (t and formed_from (drop (j + 1) (forms_of e)) (j + 1) s f)
        unfolding slot_code
        one_more_lem = i ∙ formed_step s f (drop j (forms_of e)) j (forms_of e) refl (λ z. n (is ∙ z)) ∙ rw (told, is)

        pub formed_fails : not t ≡ true → false ≡ formed_from (forms_of e) 0 s f
        unfolding ◌and◌
        formed_fails x = sym (one_more_lem ∙ rw (not-true t x))

        pub formed-on : not t ≡ false → formed_from (forms_of e) 0 s f ≡ formed_from (drop (j + 1) (forms_of e)) (j + 1) s f
        unfolding ◌and◌
        formed-on x = one_more_lem ∙ rw (not-false t x)

-- A number that is none of some others: the start of an attribute that is there, a byte that begins no entity.
pub other_not : (m k : ℕ) (b : Bool) → m ≡ k → false ≡ (not (eqb m k) and b)
unfolding ◌and◌
other_not m k b e = rw (eq-eqb m k e)

pub other-on : (m k : ℕ) (b r : Bool) → (m ≡ k → ⊥) → r ≡ b → r ≡ (not (eqb m k) and b)
unfolding ◌and◌
other-on m k b r e g = rw (ne_eqb m k e) g

-- The attributes that an element must have, by the code's tests one after the other.
module _ (level : ℕ) (starts : List ℕ) where
  pub there_none : get_or starts 0 0 ≡ 0 → false ≡ required_there level starts
  unfolding required_there
  there_none z = other_not _ _ _ z

  module _ (a : get_or starts 0 0 ≡ 0 → ⊥) where
    pub there-entity : 1 < level → true ≡ required_there level starts
    unfolding required_there
    there-entity h = other-on _ _ _ _ a (pick_lt 1 level _ _ _ h refl)

    module _ (h : level ≤ 1) where
      pub there-second : get_or starts 1 0 ≡ 0 → false ≡ required_there level starts
      unfolding required_there
      there-second z = other-on _ _ _ _ a (pick_nlt 1 level _ _ _ h (other_not _ _ _ z))

      module _ (b : get_or starts 1 0 ≡ 0 → ⊥) where
        pub there-clinical : level ≡ 1 → true ≡ required_there level starts
        unfolding required_there
        there-clinical z = other-on _ _ _ _ a (pick_nlt 1 level _ _ _ h (other-on _ _ _ _ b (pick_eq level 1 _ _ _ z refl)))

        module _ (n : level ≡ 1 → ⊥) where
          pub there_third : get_or starts 2 0 ≡ 0 → false ≡ required_there level starts
          unfolding required_there
          there_third z = other-on _ _ _ _ a (pick_nlt 1 level _ _ _ h (other-on _ _ _ _ b (pick_ne level 1 _ _ _ n (other_not _ _ _ z))))

          module _ (d : get_or starts 2 0 ≡ 0 → ⊥) where
            pub there_fourth : get_or starts 3 0 ≡ 0 → false ≡ required_there level starts
            unfolding required_there
            there_fourth z = other-on _ _ _ _ a (pick_nlt 1 level _ _ _ h (other-on _ _ _ _ b (pick_ne level 1 _ _ _ n (other-on _ _ _ _ d (other_not _ _ _ z)))))

            pub there_fifth : (get_or starts 3 0 ≡ 0 → ⊥) → not (eqb (get_or starts 4 0) 0) ≡ required_there level starts
            unfolding required_there
            there_fifth e = other-on _ _ _ _ a (pick_nlt 1 level _ _ _ h (other-on _ _ _ _ b (pick_ne level 1 _ _ _ n (other-on _ _ _ _ d (other-on _ _ _ _ e refl)))))
