-- The table of names: its rule, and what a slot tells of a text.
use mathlib.Core.Path.{◌≡◌, refl, sym, ap, subst, ◌∙◌}
use mathlib.Core.Bool.{Bool, true, false, false≢true}
use mathlib.Core.List.{List, [], ◌∷◌, ◌++◌}
use Rattle.std.specs.Prelude.{Some, None, MatchOption}
use Rattle.std.specs.Prelude as code
use Prim.Native.Nat.{ℕ, zero, suc, ◌+◌, ◌*◌, ◌-◌, ◌^◌, ◌≤◌, ◌<◌}
use native.Mathlib.Nat.{not-suc-le-zero, add-zero, add_comm, mul-zero, mul-suc}
use native.Mathlib.Numerals.{add-one}
use native.Mathlib.Omega.{arith}
use lib.Dec.{eqb, leb}
use lib.ListN.{length, get_or, take, drop, drop_of_length-le, length-append}
use lib.Seq.{get_or-drop, drop-drop, take-take, take-append_seam}
use mir.Syntax.{w64}
use mir.Val.{Fits}
use borrow.Author.Tests.{eqb-true, leb-true}
use Rattle.names.specs.Order.{alike, begins, same}
use Rattle.names.specs.Pick.{pick, ◌and◌}
use Rattle.names.proofs.Ordered.{same_eq}
use Rattle.names.proofs.Tests.{at-below, and_l, and_r, not_then}
use Rattle.reader.specs.Element.{elements, element_at}
use Rattle.reader.specs.code.Places.{rest_of, Behind}
use Rattle.reader.specs.code.AttributeNumbers.{row_of, number_in, number_of, NumberOf}
use Rattle.reader.specs.code.Values.{forms_of}
use Rattle.reader.specs.code.ElementNames.{opener_in, slot_text, after_slot, leads, form_number, code_in, body_code, Slot, slot_code, Names}
use Rattle.reader.proofs.ExpectedLaws.{text_here, text_not}

-- A test of stretches of d entries that stand one behind the other, the first of them of number k: it goes through the list once.
abbrev along : (ℕ → List ℕ → Bool) → ℕ → ℕ → ℕ → List ℕ → Bool
along f d zero k l = true
along f d (suc n) k l = f k l and along f d n (suc k) (drop d l)

at_along : (f : ℕ → List ℕ → Bool) (d n k : ℕ) (l : List ℕ) → along f d n k l ≡ true → (j : ℕ) → j < n → f (k + j) (drop (d * j) l) ≡ true
at_along f d zero k l e j h = absurd (not-suc-le-zero h)
at_along f d (suc n) k l e zero h = rw (add-zero, mul-zero) (and_l (f k l) _ e)
at_along f d (suc n) k l e (suc j) h =
    let i = at_along f d n (suc k) (drop d l) (and_r (f k l) _ e) j (omega arith) in
    let number : suc k + j ≡ k + suc j = omega arith in
    let place : d + d * j ≡ d * suc j = sym (mul-suc d j ∙ add_comm (d * j) d) in
    let there : drop (d * j) (drop d l) ≡ drop (d * suc j) l = drop-drop (d * j) d l ∙ ap (λ (x : ℕ). drop x l) place in
    subst (λ (x : ℕ). f x (drop (d * suc j) l) ≡ true) number (subst (λ (x : List ℕ). f (suc k + j) x ≡ true) there i)

-- The rule as a test of the whole table, which is computed: of a slot that a list begins with, of the nine of an element, and of the twelve elements.
unfoldable pub holds_slot : List ℕ → ℕ → List ℕ → Bool
holds_slot w code l = eqb (get_or l 0 0) (length w) and leb (length w) 22 and same (take (length w) (drop 1 l)) w and eqb (get_or l 23 0) code

abbrev holds_element : ℕ → List ℕ → Bool
holds_element e l = along (λ i x. holds_slot (slot_text e i) (slot_code e i) x) 24 9 0 l

unfoldable pub holds_all : List ℕ → Bool
holds_all names = along holds_element 216 12 0 names

slot_held : (names : List ℕ) (p : ℕ) (w : List ℕ) (code : ℕ) → holds_slot w code (drop p names) ≡ true → Slot names p w code
unfolding holds_slot
slot_held names p w code e =
    let l = drop p names in
    let a = and_l (eqb (get_or l 0 0) (length w)) _ e in
    let b = and_r (eqb (get_or l 0 0) (length w)) _ e in
    let d = and_r (leb (length w) 22) _ b in
    let first : p + 0 ≡ p = omega arith in
    record {
      size = ap (λ (x : ℕ). get_or names x 0) (sym first) ∙ sym (get_or-drop p names 0 0) ∙ eqb-true _ _ a;
      few = leb-true _ _ (and_l (leb (length w) 22) _ b);
      text = ap (take (length w)) (sym (drop-drop 1 p names)) ∙ same_eq _ _ (and_l (same (take (length w) (drop 1 l)) w) _ d);
      form = sym (get_or-drop p names 23 0) ∙ eqb-true _ _ (and_r (same (take (length w) (drop 1 l)) w) _ d);
    }

pub names_hold : (names : List ℕ) → length names ≡ 2592 → holds_all names ≡ true → Names names
unfolding holds_all
names_hold names l e = record {
  entries = l;
  slot = λ a i h k.
      let row = at_along holds_element 216 12 0 names e a h in
      let one = at_along (λ i x. holds_slot (slot_text (0 + a) i) (slot_code (0 + a) i) x) 24 9 0 (drop (216 * a) names) row i k in
      let z : 0 + a ≡ a = omega arith in
      let y : 0 + i ≡ i = omega arith in
      let place : 216 * a + 24 * i ≡ 24 * (9 * a + i) = omega arith in
      let there : drop (24 * i) (drop (216 * a) names) ≡ drop (24 * (9 * a + i)) names = drop-drop (24 * i) (216 * a) names ∙ ap (λ (x : ℕ). drop x names) place in
      slot_held names (24 * (9 * a + i)) (slot_text a i) (slot_code a i) (rw (z, y, there) at one);
}

unfoldable pub name-rules : Unit {0}
unfolding holds_slot holds_all slot_text slot_code opener_in code_in body_code form_number forms_of row_of element_at elements same alike ◌and◌
name-rules = tt

-- The numbers that the code makes of an element's and a slot's.
pub element-fits : (e : ℕ) → e < 12 → Fits w64 (9 * e)
element-fits e h = record { fits = omega arith }

module _ (e i : ℕ) (deep : e < 12) (few : i < 9) where
  pub number_fits : Fits w64 (9 * e + i)
  number_fits = record { fits = omega arith }

  pub slot-fits : Fits w64 (24 * (9 * e + i))
  slot-fits = record { fits = omega arith }

  pub text-fits : Fits w64 (24 * (9 * e + i) + 1)
  text-fits = record { fits = omega arith }

pub text-order : (p l : ℕ) → p + 1 ≤ p + 1 + l
text-order p l = omega arith

-- A slot's place, and the end of its text.
module _ (names : List ℕ) (h : Names names) (e i : ℕ) (deep : e < 12) (few : i < 9) where
  pub slot-inside : 24 * (9 * e + i) < length names
  slot-inside = let l = h.entries in omega arith

  pub slot-few : get_or names (24 * (9 * e + i)) 0 ≤ 22
  slot-few = let s = h.slot e i deep few in let a = s.size in let b = s.few in omega arith

  pub slot-end : 24 * (9 * e + i) + 1 + get_or names (24 * (9 * e + i)) 0 ≤ length names
  slot-end = let l = h.entries in let s = h.slot e i deep few in let a = s.size in let b = s.few in omega arith

  pub length-fits : Fits w64 (get_or names (24 * (9 * e + i)) 0)
  length-fits = let l = slot-few in record { fits = omega arith }

  pub end_fits : Fits w64 (24 * (9 * e + i) + 1 + get_or names (24 * (9 * e + i)) 0)
  end_fits = let l = slot-few in record { fits = omega arith }

  pub behind-fits : (s : List ℕ) (at : ℕ) → at ≤ length s → length s * 1 < 2 ^ 63 → Fits w64 (at + get_or names (24 * (9 * e + i)) 0)
  behind-fits s at a b = let l = slot-few in record { fits = omega arith }

-- A text that stands at a place, by the code's test of its slot.
behind_here : (s : List ℕ) (at : ℕ) (w : List ℕ) (t : Bool) → t ≡ begins eqb w (drop at s) → t ≡ true → at ≤ length s → (length w ≡ 0 → ⊥)
    → Behind s at (Some (at + length w)) (after_slot w (drop at s))
unfolding after_slot
behind_here s at [] t e f h n = absurd (n refl)
behind_here s at (c ∷ w) t e f h n = text_here s at (c ∷ w) t e f h (omega arith)

behind_not : (s : List ℕ) (at : ℕ) (w : List ℕ) (t : Bool) → t ≡ begins eqb w (drop at s) → t ≡ false → Behind s at None (after_slot w (drop at s))
unfolding after_slot rest_of
behind_not s at [] t e f = record { is = refl; within = tt }
behind_not s at (c ∷ w) t e f = text_not s at (c ∷ w) t e f

behind_empty : (s : List ℕ) (at : ℕ) (w : List ℕ) → length w ≡ 0 → Behind s at None (after_slot w (drop at s))
unfolding after_slot rest_of
behind_empty s at [] e = record { is = refl; within = tt }
behind_empty s at (c ∷ w) e = absurd (omega arith)

pub slot_empty : (names : List ℕ) → Names names → (s : List ℕ) (at e i : ℕ) → e < 12 → i < 9 → get_or names (24 * (9 * e + i)) 0 ≡ 0
    → Behind s at None (after_slot (slot_text e i) (drop at s))
slot_empty names h s at e i deep few z = behind_empty s at (slot_text e i) (sym (h.slot e i deep few).size ∙ z)

module _ (names : List ℕ) (h : Names names) (s : List ℕ) (at e i : ℕ) (deep : e < 12) (few : i < 9) (t : Bool)
    (told : t ≡ begins eqb (take (24 * (9 * e + i) + 1 + get_or names (24 * (9 * e + i)) 0 - (24 * (9 * e + i) + 1)) (drop (24 * (9 * e + i) + 1) names)) (drop at s))
    (inside : at ≤ length s) where
  told-slot : t ≡ begins eqb (slot_text e i) (drop at s)
  told-slot =
      let k = h.slot e i deep few in
      let z : 24 * (9 * e + i) + 1 + get_or names (24 * (9 * e + i)) 0 - (24 * (9 * e + i) + 1) ≡ length (slot_text e i) = let a = k.size in omega arith in
      told ∙ rw (z, k.text)

  pub slot_here : t ≡ true → (get_or names (24 * (9 * e + i)) 0 ≡ 0 → ⊥) → Behind s at (Some (at + get_or names (24 * (9 * e + i)) 0)) (after_slot (slot_text e i) (drop at s))
  slot_here f n = let k = (h.slot e i deep few).size in rw k (behind_here s at (slot_text e i) t told-slot f inside (λ z. n (k ∙ z)))

  pub slot_not : t ≡ false → Behind s at None (after_slot (slot_text e i) (drop at s))
  slot_not f = behind_not s at (slot_text e i) t told-slot f

-- The slot of an attribute.
attribute-slot : (names : List ℕ) → Names names → (e j : ℕ) → e < 12 → j < 8
    → Slot names (24 * (9 * e + (j + 1))) (opener_in (drop j (row_of (element_at e)))) (code_in (drop j (forms_of e)))
unfolding slot_text slot_code
attribute-slot names h e j deep few =
    subst (λ (x : ℕ). Slot names (24 * (9 * e + (j + 1))) (slot_text e x) (slot_code e x)) (add-one j) (h.slot e (j + 1) deep (omega arith))

-- The first name of a row against a text, by its slot.
short-leads : (ws : List (List ℕ)) (n : List ℕ) → length (opener_in ws) < 3 → false ≡ leads ws n
unfolding opener_in leads
short-leads [] n h = refl
short-leads (w ∷ ws) n h = let a = length-append w (61 ∷ 34 ∷ []) in absurd (omega arith)

other-leads : (ws : List (List ℕ)) (n : List ℕ) → (length n ≡ length (opener_in ws) - 3 → ⊥) → false ≡ leads ws n
unfolding opener_in leads
other-leads [] n h = refl
other-leads (w ∷ ws) n h =
    let a = length-append w (61 ∷ 34 ∷ []) in
    sym (not_then (same w n) (λ f. let q : length w ≡ length n = ap length (same_eq w n f) in h (omega arith)))

middle : (x w : List ℕ) → take (suc (length w + 2)) x ≡ 32 ∷ (w ++ 61 ∷ 34 ∷ []) → take (length w) (drop 1 x) ≡ w
middle [] w e = let z : ◌≡◌ {A = ℕ} 0 (suc (length (w ++ 61 ∷ 34 ∷ []))) = ap length e in absurd (omega arith)
middle (c ∷ x) w e =
    let f : take (length w + 2) x ≡ w ++ 61 ∷ 34 ∷ [] = cc in
    sym (take-take (length w) (length w + 2) x (omega arith)) ∙ rw f (take-append_seam w (61 ∷ 34 ∷ []))

told-leads : (ws : List (List ℕ)) (n x : List ℕ) (t : Bool) → take (length (opener_in ws)) x ≡ opener_in ws → 3 ≤ length (opener_in ws)
    → t ≡ same (take (length (opener_in ws) - 3) (drop 1 x)) n → t ≡ leads ws n
unfolding opener_in leads
told-leads [] n x t e h f = absurd (omega arith)
told-leads (w ∷ ws) n x t e h f =
    let a = length-append w (61 ∷ 34 ∷ []) in
    let z : length (w ++ 61 ∷ 34 ∷ []) ≡ length w + 2 = a in
    let y : suc (length (w ++ 61 ∷ 34 ∷ [])) - 3 ≡ length w = omega arith in
    let m : take (length w) (drop 1 x) ≡ w = middle x w (subst (λ (k : ℕ). take (suc k) x ≡ 32 ∷ (w ++ 61 ∷ 34 ∷ [])) z e) in
    f ∙ ap (λ (k : ℕ). same (take k (drop 1 x)) n) y ∙ rw m

module _ (names : List ℕ) (h : Names names) (e j : ℕ) (deep : e < 12) (few : j < 8) (n : List ℕ) where
  pub same-short : get_or names (24 * (9 * e + (j + 1))) 0 < 3 → false ≡ leads (drop j (row_of (element_at e))) n
  same-short l = let k = attribute-slot names h e j deep few in let a = k.size in short-leads _ n (omega arith)

  pub same-other : (length n ≡ get_or names (24 * (9 * e + (j + 1))) 0 - 3 → ⊥) → false ≡ leads (drop j (row_of (element_at e))) n
  same-other d = let k = attribute-slot names h e j deep few in other-leads _ n (λ q. d (q ∙ rw k.size))

  pub same-told : (t : Bool) → 3 ≤ get_or names (24 * (9 * e + (j + 1))) 0
      → t ≡ same (take (24 * (9 * e + (j + 1)) + get_or names (24 * (9 * e + (j + 1))) 0 - 1 - (24 * (9 * e + (j + 1)) + 2)) (drop (24 * (9 * e + (j + 1)) + 2) names)) n
      → t ≡ leads (drop j (row_of (element_at e))) n
  same-told t low f =
      let k = attribute-slot names h e j deep few in
      let p = 24 * (9 * e + (j + 1)) in
      let a = k.size in
      let z : p + get_or names p 0 - 1 - (p + 2) ≡ length (opener_in (drop j (row_of (element_at e)))) - 3 = omega arith in
      let y : drop (p + 2) names ≡ drop 1 (drop (p + 1) names) = let q : p + 2 ≡ p + 1 + 1 = omega arith in rw q (sym (drop-drop 1 (p + 1) names)) in
      told-leads (drop j (row_of (element_at e))) n (drop (p + 1) names) t k.text (omega arith) (f ∙ rw (z, y))

-- The row, name by name.
behind-first : {A : Type 0} (l : List A) (j : ℕ) (x : A) (xs : List A) → drop j l ≡ x ∷ xs → drop (j + 1) l ≡ xs
behind-first l j x xs e = sym (drop-drop 1 j l) ∙ ap (drop 1) e

behind_none : {A : Type 0} (l : List A) (j : ℕ) → drop j l ≡ [] → drop (j + 1) l ≡ []
behind_none l j e = sym (drop-drop 1 j l) ∙ ap (drop 1) e

number_step : (ws : List (List ℕ)) (n : List ℕ) (j : ℕ) (l : List (List ℕ)) → drop j l ≡ ws → leads ws n ≡ false → number_in j ws n ≡ number_in (j + 1) (drop (j + 1) l) n
unfolding leads number_in pick
number_step [] n j l e f = rw (behind_none l j e)
number_step (w ∷ ws) n j l e f = rw (behind-first l j w ws e, f, add-one)

number_lead : (ws : List (List ℕ)) (n : List ℕ) (j : ℕ) → leads ws n ≡ true → number_in j ws n ≡ j
unfolding leads number_in pick
number_lead [] n j f = absurd (false≢true f)
number_lead (w ∷ ws) n j f = rw f

rows_few : (e : ℕ) → e < 12 → length (row_of (element_at e)) ≤ 8
rows_few e h = leb-true (length (row_of (element_at e))) 8 (at-below 12 (λ e. leb (length (row_of (element_at e))) 8) (unfold row_of element_at elements ◌and◌ in refl) e h)

module _ (e : ℕ) (n : List ℕ) where
  -- No name before j is n.
  number_past : (j : ℕ) → ((k : ℕ) → k < j → leads (drop k (row_of (element_at e))) n ≡ false) → number_of e n ≡ number_in j (drop j (row_of (element_at e))) n
  unfolding number_of
  number_past zero h = refl
  number_past (suc j) h =
      let z : suc j ≡ j + 1 = omega arith in
      rw z (number_past j (λ k l. h k (omega arith)) ∙ number_step (drop j (row_of (element_at e))) n j (row_of (element_at e)) refl (h j (omega arith)))

  pub number_told : e < 12 → (r : code.Option ℕ)
      → MatchOption r ((k : ℕ) → 0 ≤ k → k < 8 → leads (drop k (row_of (element_at e))) n ≡ false)
      (λ i. (0 ≤ i) × (i < 8) × (leads (drop i (row_of (element_at e))) n ≡ true) × ((k : ℕ) → 0 ≤ k → k < i → leads (drop k (row_of (element_at e))) n ≡ false))
      → NumberOf (number_of e n) r
  unfolding number_in
  number_told h None u = let r = rows_few e h in number_past 8 (λ k l. u k (omega arith) l) ∙ rw (drop_of_length-le (row_of (element_at e)) {i = 8} r)
  number_told h (Some i) u = (sym (number_past i (λ k l. u.3 k (omega arith) l) ∙ number_lead (drop i (row_of (element_at e))) n i u.2), u.1)
