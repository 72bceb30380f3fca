-- What is written as most files write it: a text that stands at a place, an element's name, and the attribute of an element that is next.
use mathlib.Core.Path.{◌≡◌, refl, sym, ap, ◌∙◌}
use mathlib.Core.Bool.{Bool, true, false, ◌||◌}
use mathlib.Core.List.{List, [], ◌∷◌, ◌++◌, append_assoc, append-nil}
use mathlib.Core.Option.{none, some}
use Rattle.std.specs.Prelude.{Option as Maybe, Some, None, MatchOption}
use Prim.Native.Nat.{ℕ, ◌+◌, ◌-◌, ◌≤◌, ◌<◌}
use native.Mathlib.Numerals.{add-one}
use native.Mathlib.Omega.{arith}
use lib.Dec.{eqb, leb}
use lib.ListN.{length, get_or, drop, length-append, length-drop}
use lib.Seq.{get_or-drop, drop-drop, take-append_seam}
use mir.Syntax.{w64}
use mir.Val.{Fits}
use borrow.Author.Tests.{eqb-true, eqb-false, leb-true}
use Rattle.names.specs.Bytes.{bytes, ch, all}
use Rattle.names.specs.Class.{is_white, is_letter, is_digit, is_markup}
use Rattle.names.specs.Order.{begins, same}
use Rattle.names.specs.Pick.{pick, ◌and◌}
use Rattle.names.specs.Scan.{after}
use Rattle.names.proofs.Ordered.{same_eq, same_refl}
use Rattle.names.proofs.Stretch.{begins_reaches}
use Rattle.names.proofs.Tests.{below, at-below, and_r, not_then}
use Rattle.names.proofs.Walk.{drop_here, drop_past}
use Rattle.store.specs.Answer.{accepted, ◌>>=◌, ◌>>◌, unless, present}
use Rattle.reader.specs.Tag.{read, attr, strip, first_is, skip, is_tag_byte, tag_name, is_quote, quoted, attribute}
use Rattle.reader.specs.Element.{elements, element_at, attribute_at}
use Rattle.reader.specs.code.Places.{part, rest_of, Behind, name_to, NameEnd, closed_at, ValueTo, spaced, name_at}
use Rattle.reader.specs.code.Expected.{Expected, Untelling, places_of}
use Rattle.reader.specs.code.AttributeNumbers.{row_of}
use Rattle.reader.specs.code.ElementNames.{opener_in, slot_text, after_slot}
use Rattle.reader.proofs.Front.{front_at, strip-at}
use Rattle.reader.proofs.PiecePlaces.{behind_some, behind_no}
use Rattle.reader.proofs.PlainNames.{plain_name, tag_name-at, ends_61, skip-name}
use Rattle.reader.proofs.AttributeNumberLaws.{attribute-is, own_number}

-- A text that begins with w.
pub strip-begins : (w x : List ℕ) → strip w x ≡ pick (begins eqb w x) (some (drop (length w) x)) none
unfolding strip begins
strip-begins [] x = unfold pick in refl
strip-begins (b ∷ w) [] = unfold pick in refl
strip-begins (b ∷ w) (c ∷ x) = go (eqb b c) (strip-begins w x)
  where
    go : (t : Bool) → strip w x ≡ pick (begins eqb w x) (some (drop (length w) x)) none → pick t (strip w x) none ≡ pick (t and begins eqb w x) (some (drop (length w) x)) none
    go true e = unfold pick ◌and◌ in e
    go false e = unfold pick ◌and◌ in refl

pub strip_some : (w x y : List ℕ) → strip w x ≡ some y → x ≡ w ++ y
unfolding strip
strip_some [] x y e = cc
strip_some (b ∷ w) [] y e = cc
strip_some (b ∷ w) (c ∷ x) y e = go (eqb b c) refl (strip_some w x y) e
  where
    go : (t : Bool) → eqb b c ≡ t → (strip w x ≡ some y → x ≡ w ++ y) → pick t (strip w x) none ≡ some y → c ∷ x ≡ b ∷ (w ++ y)
    go true q ih f = rw (eqb-true b c q) (ap (λ (l : List ℕ). c ∷ l) (ih (unfold pick in f)))
    go false q ih f = let z : none ≡ some y = unfold pick in f in cc

-- The code's test of a text at a place.
module _ (s : List ℕ) (at : ℕ) (w : List ℕ) (t : Bool) (e : t ≡ begins eqb w (drop at s)) where
  pub text_here : t ≡ true → at ≤ length s → 1 ≤ length w → Behind s at (Some (at + length w)) (strip w (drop at s))
  unfolding pick rest_of
  text_here f h l =
      let long = begins_reaches eqb w (drop at s) (sym e ∙ f) in
      let size = length-drop at s in
      record { is = sym (strip-begins w (drop at s) ∙ rw (← e, f, drop-drop)); within = (omega arith, omega arith) }

  pub text_not : t ≡ false → Behind s at None (strip w (drop at s))
  unfolding pick rest_of
  text_not f = record { is = sym (strip-begins w (drop at s) ∙ rw (← e, f)); within = tt }

-- What follows the text of a slot.
behind-strip : (w x y : List ℕ) → after_slot w x ≡ some y → strip w x ≡ some y
unfolding after_slot
behind-strip [] x y e = let z : ◌≡◌ {A = ℕ} 0 1 = cc in absurd (omega arith)
behind-strip (c ∷ w) x y e = e

behind-is : (w x : List ℕ) → 1 ≤ length w → after_slot w x ≡ strip w x
unfolding after_slot
behind-is [] x h = absurd (omega arith)
behind-is (c ∷ w) x h = refl

-- What follows a text is as much shorter.
strip-size : (w : List ℕ) (s : List ℕ) (at r : ℕ) → strip w (drop at s) ≡ some (drop r s) → at ≤ r → r ≤ length s → r ≡ at + length w
strip-size w s at r e low high =
    let l : length (drop at s) ≡ length w + length (drop r s) = rw (strip_some w (drop at s) (drop r s) e) (length-append w (drop r s)) in
    let a = length-drop at s in
    let b = length-drop r s in
    omega arith

-- A whole text is w.
module _ (n w : List ℕ) where
  whole_not : Behind n 0 None (strip w (drop 0 n)) → false ≡ same n w
  whole_not p =
      sym (not_then (same n w) (λ f.
      let q : n ≡ w = same_eq n w f in
      let i : strip w n ≡ some [] = rw q (let k = strip-at w [] in rw append-nil at k) in
      let o : strip w n ≡ none = behind_no n 0 _ p in
      let c : none ≡ some [] = sym o ∙ i in
      let z : ◌≡◌ {A = ℕ} 0 1 = cc in
      omega arith))

  whole-told : (e : ℕ) → Behind n 0 (Some e) (strip w (drop 0 n)) → eqb e (length n) ≡ same n w
  whole-told e p =
      let i : strip w n ≡ some (drop e n) = behind_some n 0 _ e p in
      let size : e ≡ 0 + length w = strip-size w n 0 e i (omega arith) p.within.1 in
      go (eqb e (length n)) refl i size
    where
      go : (b : Bool) → eqb e (length n) ≡ b → strip w n ≡ some (drop e n) → e ≡ 0 + length w → b ≡ same n w
      go true f i size =
          let l = eqb-true e (length n) f in
          let q : n ≡ w = strip_some w n (drop e n) i ∙ rw (drop_past n e (omega arith)) (append-nil w) in
          sym (rw q (same_refl w))
      go false f i size =
          let l = eqb-false e (length n) f in
          sym (not_then (same n w) (λ g. let q : length n ≡ length w = rw (same_eq n w g) in l (omega arith)))

-- It is the name of an element.
module _ (n : List ℕ) (element : ℕ) (deep : element < 12) (r : Maybe ℕ) (p : Behind n 0 r (after_slot (slot_text element 0) (drop 0 n))) where
  own_name_lem : Behind n 0 r (strip (element_at element).name (drop 0 n))
  unfolding slot_text
  own_name_lem =
      let long = leb-true 1 (length (element_at element).name) (at-below 12 (λ l. leb 1 (length (element_at l).name)) (unfold element_at elements ◌and◌ in refl) element deep) in
      rw (← behind-is (element_at element).name (drop 0 n) long) p

-- By the place behind it, if there is one: what a closure told of it.
pub name_told : (n : List ℕ) (element : ℕ) → element < 12 → (r : Maybe ℕ) → Behind n 0 r (after_slot (slot_text element 0) (drop 0 n)) → (t : Bool) {Q : ℕ → Type 0}
    → MatchOption r (t ≡ false) Q → ((e : ℕ) → Q e → t ≡ eqb e (length n)) → t ≡ same n (element_at element).name
name_told n element h None p t e q = e ∙ whole_not n (element_at element).name (own_name_lem n element h None p)
name_told n element h (Some e) p t g q = q e g ∙ whole-told n (element_at element).name e (own_name_lem n element h (Some e) p)

-- An element's name, where another byte than a name's follows it.
pub element-plain : (e : ℕ) → e < 12 → plain_name (element_at e).name ≡ true
element-plain e h = at-below 12 (λ l. plain_name (element_at l).name) (unfold plain_name element_at elements first_is all is_tag_byte is_letter is_digit ◌and◌ in refl) e h

pub element-ends : (s : List ℕ) (at level n : ℕ) (t : Bool) → Behind s at (Some n) (after_slot (slot_text level 0) (drop at s)) → t ≡ is_tag_byte (get_or s n 0)
    → n < length s → t ≡ false → level < 7 → NameEnd s at (Some n) (tag_name (drop at s))
unfolding name_to slot_text
element-ends s at level n t p f k g deep =
    let h = p.within.0 in
    let w : List ℕ = (element_at level).name in
    let i : strip w (drop at s) ≡ some (drop n s) = behind-strip w (drop at s) (drop n s) (behind_some s at _ n p) in
    let size : n ≡ at + length w = strip-size w s at n i (omega arith) p.within.1 in
    let few : n - at ≡ length w = omega arith in
    let is : drop at s ≡ w ++ (get_or s n 0 ∷ drop (n + 1) s) = strip_some w (drop at s) (drop n s) i ∙ rw (drop_here s n k) in
    let named : tag_name (drop at s) ≡ accepted (read w (drop n s)) =
    rw is (tag_name-at w (get_or s n 0) (drop (n + 1) s) (element-plain level (omega arith)) (sym f ∙ g) ∙ rw (drop_here s n k)) in
    record { is = rw (few, named, is, take-append_seam w (get_or s n 0 ∷ drop (n + 1) s)); within = p.within }

-- The attribute of an element whose opening stands at a place.
attribute-plain : (element j : ℕ) → element < 12 → j < 8 → 0 < length (attribute_at element j) → plain_name (attribute_at element j) ≡ true
attribute-plain element j h k long =
    go (eqb (length (attribute_at element j)) 0) refl
    (at-below 8 (λ j. eqb (length (attribute_at element j)) 0 || plain_name (attribute_at element j))
    (at-below 12 (λ element. below 8 (λ j. eqb (length (attribute_at element j)) 0 || plain_name (attribute_at element j))) (unfold plain_name attribute_at element_at elements first_is all is_tag_byte is_letter is_digit ◌and◌ in refl) element h)
    j k)
  where
    go : (b : Bool) → eqb (length (attribute_at element j)) 0 ≡ b → (b || plain_name (attribute_at element j)) ≡ true → plain_name (attribute_at element j) ≡ true
    go true e f = let z = eqb-true (length (attribute_at element j)) 0 e in absurd (omega arith)
    go false e f = f

pub double_quote : is_markup (ch "\"") ≡ true
unfolding is_markup
double_quote = refl

-- What mostly stands before its value.
abbrev opener : ℕ → ℕ → List ℕ
opener element j = ch " " ∷ (attribute_at element j ++ bytes "=\"")

opener_strip : (element j : ℕ) (x y : List ℕ) → after_slot (slot_text element (j + 1)) x ≡ some y → strip (opener element j) x ≡ some y
unfolding slot_text
opener_strip element j x y e = go (drop j (row_of (element_at element))) refl (rw add-one at e)
  where
    go : (ws : List (List ℕ)) → drop j (row_of (element_at element)) ≡ ws → after_slot (opener_in ws) x ≡ some y → strip (opener element j) x ≡ some y
    go [] q f = let z : ◌≡◌ {A = ℕ} 0 1 = unfold after_slot opener_in in cc in absurd (omega arith)
    go (w ∷ ws) q f =
        let here : j + 0 ≡ j = omega arith in
        let first : get_or (row_of (element_at element)) j [] ≡ w = sym (rw here at (get_or-drop j (row_of (element_at element)) 0 [])) ∙ ap (λ (l : List (List ℕ)). get_or l 0 []) q in
        rw (attribute-is element j ∙ first) (unfold after_slot opener_in in f)

-- No name of an attribute is empty.
attribute_long : (element j : ℕ) → element < 12 → j < 8 → 0 < length (slot_text element (j + 1)) → 0 < length (attribute_at element j)
attribute_long element j h k long =
    go (eqb (length (slot_text element (j + 1))) 0) refl
    (at-below 8 (λ j. eqb (length (slot_text element (j + 1))) 0 || leb 1 (length (attribute_at element j)))
    (at-below 12 (λ element. below 8 (λ j. eqb (length (slot_text element (j + 1))) 0 || leb 1 (length (attribute_at element j))))
    (unfold slot_text opener_in row_of attribute_at element_at elements ◌and◌ in refl) element h)
    j k)
  where
    go : (b : Bool) → eqb (length (slot_text element (j + 1))) 0 ≡ b → (b || leb 1 (length (attribute_at element j))) ≡ true → 0 < length (attribute_at element j)
    go true e f = let z = eqb-true (length (slot_text element (j + 1))) 0 e in absurd (omega arith)
    go false e f = leb-true 1 (length (attribute_at element j)) f

behind-long : (w x y : List ℕ) → after_slot w x ≡ some y → 0 < length w
unfolding after_slot
behind-long [] x y e = let z : ◌≡◌ {A = ℕ} 0 1 = cc in absurd (omega arith)
behind-long (c ∷ w) x y e = omega arith

module _ (s : List ℕ) (at element j q : ℕ) (h : element < 12) (k : j < 8) (m : Behind s at (Some q) (after_slot (slot_text element (j + 1)) (drop at s)))
    (r : Maybe ℕ) (v : ValueTo (ch "\"") s q r) where
  abbrev w : List ℕ
  w = attribute_at element j

  opened : strip (opener element j) (drop at s) ≡ some (drop q s)
  opened = opener_strip element j (drop at s) (drop q s) (behind_some s at _ q m)

  long : 0 < length w
  long = attribute_long element j h k (behind-long (slot_text element (j + 1)) (drop at s) (drop q s) (behind_some s at _ q m))

  stands : drop at s ≡ 32 ∷ (w ++ (61 ∷ 34 ∷ drop q s))
  stands = strip_some (opener element j) (drop at s) (drop q s) opened ∙ rw append_assoc

  size : q ≡ at + (3 + length w)
  size =
      let a = length-append w (61 ∷ 34 ∷ []) in
      let i = m.within in
      let b = strip-size (opener element j) s at q opened (omega arith) i.1 in
      omega arith

  plain : plain_name w ≡ true
  plain = attribute-plain element j h k long

  behind_space : drop (at + 1) s ≡ w ++ (61 ∷ 34 ∷ drop q s)
  behind_space = sym (drop-drop 1 at s) ∙ ap (drop 1) stands

  name-is : part s (at + 1) (q - 2) ≡ w
  name-is =
      let a = size in
      let z : q - 2 - (at + 1) ≡ length w = omega arith in
      rw (z, behind_space) (take-append_seam w (61 ∷ 34 ∷ drop q s))

  value-is : quoted (34 ∷ drop q s) ≡ closed_at s q r
  unfolding quoted is_quote unless ◌>>◌ ◌>>=◌
  value-is = sym v.is

  spaced-is : spaced (drop at s) ≡ (closed_at s q r >>= λ x. accepted (read (attr w x.got) x.rest))
  unfolding spaced first_is is_white unless attribute strip skip after pick present ◌>>◌ ◌>>=◌
  spaced-is =
      let a : skip (w ++ (61 ∷ 34 ∷ drop q s)) ≡ w ++ (61 ∷ 34 ∷ drop q s) = skip-name w (61 ∷ 34 ∷ drop q s) plain in
      rw (stands, a, tag_name-at w 61 (34 ∷ drop q s) plain ends_61, value-is)

  pub expected_broken : r ≡ None → Untelling s at (length s)
  unfolding spaced first_is unless closed_at ◌>>◌ ◌>>=◌
  expected_broken g =
      let a = size in
      let b = m.within in
      record { is = rw (drop_past s (length s) (omega arith)) (sym (spaced-is ∙ rw g)); low = omega arith; high = omega arith }

  pub expected_met : (e : ℕ) → r ≡ Some e → Expected s at element j (places_of at q e)
  unfolding name_at closed_at ◌>>=◌
  expected_met e g =
      let a = size in
      let y : ValueTo (ch "\"") s q (Some e) = rw g at v in
      let b = y.within in
      record {
        is = rw name-is (sym (spaced-is ∙ rw g));
        inside =
            record {
              low = omega arith;
              named = let p = long in omega arith;
              equal = omega arith;
              valued = b.0;
              behind = omega arith;
              high = omega arith;
              fine = y.fine;
              run = rw name-is (rw behind_space (front_at is_tag_byte w 61 (34 ∷ drop q s) (and_r (first_is is_letter w) _ (unfold plain_name in plain)) ends_61));
            };
        number = rw name-is (sym (own_number element j h k long));
        few = k;
      }

-- The numbers of elements and attributes, and what the code adds to.
pub next_fits : (j : ℕ) → j < 8 → Fits w64 (j + 1)
next_fits j h = record { fits = omega arith }
