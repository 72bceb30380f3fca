-- What a tag says, from what the code told of it.
use mathlib.Core.Path.{◌≡◌, refl, sym, ap, subst, ◌∙◌}
use mathlib.Core.Bool.{Bool, true, false, not}
use mathlib.Core.List.{List, [], ◌∷◌, nil≢cons, tail-eq_of_cons-eq}
use mathlib.Core.Option.{Option, none, some}
use Prim.Native.Nat.{ℕ, zero, suc, ◌+◌, ◌-◌, ◌≤◌, ◌<◌}
use native.Mathlib.Numerals.{add-one}
use native.Mathlib.Omega.{arith}
use lib.Dec.{eqb, ltb}
use lib.ListN.{length, take, drop, get_or}
use borrow.Author.Tests.{eq-eqb, ne_eqb, le-leb, lt-leb, ltb-true, ltb-false, not-true, not-false}
use Rattle.std.specs.Prelude.{Option as Optional, Some, None, Result, Ok, Err, IfOk}
use Rattle.names.specs.Bytes.{bytes, all}
use Rattle.names.specs.Class.{is_value_byte}
use Rattle.names.specs.Key.{Name}
use Rattle.names.specs.Name.{is_value, is_text_of, value_most}
use Rattle.names.specs.Order.{same}
use Rattle.names.specs.Text.{decode_from, decode}
use Rattle.names.specs.Pick.{pick, ◌and◌}
use Rattle.store.specs.Answer.{refused, accepted, ◌>>=◌, unless}
use Rattle.store.specs.Change.{is_null}
use Rattle.store.specs.code.Deciding.{word_numbered}
use Rattle.store.specs.code.Refusals.{number_of, said}
use Rattle.store.specs.declared.answer.Refusal.{Refusal}
use Rattle.store.specs.declared.answer.Refusal.TheVariants.{WrittenForm, Value}
use Rattle.store.specs.Word.{Word}
use Rattle.reader.specs.Tag.{read, skip, content}
use Rattle.reader.specs.Element.{Form, element_at, may_stand, sort_behind, has_form, body_fits, get, or_else, well_placed}
use Rattle.reader.specs.code.Placed.{Placed}
use Rattle.reader.specs.Tell.{entity, Place, place, Telling, fault, event, goes, finishes, leaves, ◌▸◌, given, word_here, innermost, word_in, opening, place_behind, tell_below, tell_body, tell_as, tell_closing, tell}
use Rattle.reader.specs.Judge.{run, words_of}
use Rattle.reader.specs.code.Found.{attrs_of}
use Rattle.reader.specs.Import.{is_nil, go_on}
use Rattle.reader.specs.code.Answered.{name_of, Attributed, tag_of, Readable}
use Rattle.reader.specs.code.Bodies.{body_text, BodyStretch, AsWritten, ContentRead, ValueHeld}
use Rattle.reader.specs.code.ElementNames.{form_number, form_numbered, body_code, row_here}
use Rattle.reader.specs.code.Places.{part, is_some}
use Rattle.reader.specs.code.EntityTags.{own_of}
use Rattle.reader.specs.code.OpenElements.{word_at, maybe_word, word_held, Numbered, frames_in, top_word, moved_by, word_answered}
use Rattle.reader.specs.code.Values.{sort_at}
use Rattle.reader.specs.code.Telling.{words_in, place_in, opens_as, saying, content_text, Holding, no_content, Opening, Going, ToldBy, telling, Passing, going_on, Typed, tell_content, Halts}
use Rattle.reader.specs.declared.body.Content.{Content}
use Rattle.reader.specs.declared.cursor.TagRead.{TagRead}
use Rattle.reader.specs.declared.entity.Own.{Own}
use Rattle.reader.specs.declared.open_elements.OpenElements.{OpenElements}
use Rattle.reader.specs.declared.tell.Told.{Told}
use Rattle.reader.proofs.Forms.{placed-both, placed-named, stands_at, stands-few, untyped_body}
use Rattle.reader.proofs.BodyRest.{content-values}
use Rattle.reader.proofs.ContentLaws.{text-held, held-text}
use Rattle.reader.proofs.EntityLaws.{entity-element}
use Rattle.reader.proofs.FormLaws.{number-form, code_some}
use Rattle.reader.proofs.ImportAnswers.{said-end}
use Rattle.reader.proofs.OpenElementLaws.{held-word, held-numbered, no_word, some_top}
use Rattle.reader.proofs.OwnLaws.{attributed-ordered, opening-short, closing-short}

-- The words of the open elements.
pub words_in_lem : (l : ℕ) (k : List Name) (ws : List ℕ) → words_of (frames_in l k ws) ≡ words_in l ws
unfolding frames_in words_of words_in
words_in_lem zero k ws = refl
words_in_lem (suc l) k ws = rw (words_in_lem l k ws)

words-many : (l : ℕ) (ws : List ℕ) → length (words_in l ws) ≡ l
unfolding words_in
words-many zero ws = refl
words-many (suc l) ws = rw (words-many l ws)

words_top : (n l : ℕ) (ws : List ℕ) → n ≡ l + 1 → words_in n ws ≡ word_at (get_or ws l 0) ∷ words_in l ws
unfolding words_in
words_top n l ws e = rw (e, add-one)

top_in : (o : OpenElements) → innermost (place_in o).words ≡ word_at (top_word o)
top_in o = go o.level refl
  where
    go : (n : ℕ) → o.level ≡ n → innermost (place_in o).words ≡ word_at (top_word o)
    go zero e = none_in e ∙ ap word_at (no_word o e)
      where
        none_in : o.level ≡ 0 → innermost (place_in o).words ≡ word_at 0
        none_in e = rw e (unfold words_in innermost word_at pick in refl)
    go (suc l) e = one_in (omega arith) ∙ ap word_at (some_top o (λ q. omega arith))
      where
        one_in : o.level ≡ o.level - 1 + 1 → innermost (place_in o).words ≡ word_at (get_or o.words (o.level - 1) 0)
        one_in h = ap innermost (words_top o.level (o.level - 1) o.words h) ∙ (unfold innermost in refl)

-- The code's answers.
pub go_made : (word kind : ℕ) (t : TagRead) (c : Content) (o behind : OpenElements) (own : Own) → behind ≡ moved_by o t.element kind word → own ≡ own_of t o.level
    → record { content = c; elements = behind; own = own; word = word; kind = kind } ≡ going_on word kind t c o
go_made word kind t c o behind own e f = rw (e, f)

pub pass_made : (word : ℕ) (t : TagRead) (c : Content) (o : OpenElements) (r : Told) → c ≡ no_content t.next.at → r ≡ going_on word t.kind t c o
    → r ≡ going_on word t.kind t (no_content t.next.at) o
pass_made word t c o r e f = f ∙ rw e

-- Nothing stands between two tags.
module _ (s : List ℕ) (e : ℕ) (none-bodied : (element_at e).body ≡ none) (at : ℕ) (h : at ≤ length s) where
  empty-part : part s at at ≡ []
  empty-part = let z : at - at ≡ 0 = omega arith in rw z

  nothing_is : content_text s (no_content at) ≡ []
  unfolding body_text pick decode decode_from or_else
  nothing_is = rw empty-part

  holds-nothing : Holding s e (no_content at)
  holds-nothing = record {
    stretch = record { order = omega arith; inside = h; fine = λ n. (rw empty-part (unfold decode decode_from is_some in refl)); plain = λ c. absurd (omega arith) };
    bodied = rw none-bodied nothing_is;
  }

-- It is refused.
refuses : (x : Telling) (k : Refusal) → x ≡ fault (number_of k) → Halts x (Err k)
unfolding run ◌>>=◌
refuses x k f = λ m p g. rw f refl

-- An opening tag.
module _ (s : List ℕ) (t : TagRead) (snapshot : Bool) (o : OpenElements) (pre : (o.level ≤ 6) × (t.kind < 2) × (t.element ≡ row_here (o.level + 1) (name_of s t))) (a : Attributed s t) where
  abbrev rest : List ℕ
  rest = drop t.next.at s

  abbrev told : Telling
  told = tell snapshot (place_in o) (tag_of s t) rest

  not_closing : eqb t.kind 2 ≡ false
  not_closing = let h = pre.1 in ne_eqb t.kind 2 (λ q. omega arith)

  opens-is : told ≡ (well_placed (sort_at o.items) (o.level + 1) (name_of s t) (attrs_of s t) ▸ λ e. tell_as (element_at e).body snapshot (place_in o) e (name_of s t) (attrs_of s t) (eqb t.kind 1) rest)
  unfolding tag_of tell pick
  opens-is =
      let y : suc (length (place_in o).words) ≡ o.level + 1 = rw (words-many o.level o.words) (sym (add-one o.level)) in
      rw (not_closing, y)

  pub told_misplaced : (k : Refusal) → refused (number_of k) ≡ well_placed (sort_at o.items) (o.level + 1) (name_of s t) (attrs_of s t) → Halts told (Err k)
  unfolding ◌▸◌
  told_misplaced k test = refuses told k (opens-is ∙ rw (← test))

  module _ (test : accepted t.element ≡ well_placed (sort_at o.items) (o.level + 1) (name_of s t) (attrs_of s t)) where
    well_placed_lem : well_placed (sort_at o.items) (o.level + 1) (name_of s t) (attrs_of s t) ≡ accepted t.element
    well_placed_lem = sym test

    pub tag_placed : Placed t.element (attrs_of s t)
    tag_placed = (placed-both (sort_at o.items) (o.level + 1) (name_of s t) (attrs_of s t) t.element well_placed_lem).0

    stands : may_stand (o.level + 1) t.element ≡ true
    stands = (placed-both (sort_at o.items) (o.level + 1) (name_of s t) (attrs_of s t) t.element well_placed_lem).1

    deep : o.level ≤ 5
    deep = let few = stands-few (o.level + 1) t.element stands in omega arith

    placed-is : told ≡ tell_as (element_at t.element).body snapshot (place_in o) t.element (name_of s t) (attrs_of s t) (eqb t.kind 1) rest
    unfolding ◌▸◌
    placed-is = opens-is ∙ rw well_placed_lem

    plain-is : (element_at t.element).body ≡ none → told ≡ tell_below snapshot (place_in o) o.level t.element (attrs_of s t) (eqb t.kind 1) rest
    plain-is e = placed-is ∙ rw e (unfold tell_as in rw (words-many o.level o.words))

    opening_of : (word : ℕ) → (o.level ≡ 0 → word ≡ 0) → (1 ≤ o.level → word ≡ 0 → ⊥) → Opening s t o.level word
    opening_of word f g = record { attributed = a; placed = tag_placed; stands = stands; deep = deep; clinical = f; entity = g }

    going_of : (element_at t.element).body ≡ none → (word : ℕ) → (o.level ≡ 0 → word ≡ 0) → (1 ≤ o.level → word ≡ 0 → ⊥) → told ≡ saying t.kind o t.element (attrs_of s t) [] word rest
        → (r : Told) → r ≡ going_on word t.kind t (no_content t.next.at) o → Going told s t o r
    going_of untyped word f g e r q =
        rw q
        record {
          is = e ∙ rw (nothing_is s t.element untyped t.next.at a.high);
          high = a.high;
          kinds = (let y = pre.1 in omega arith);
          opening = λ h. h;
          closing = λ h. h;
          opens = λ h. opening_of word f g;
          holding = λ h. holds-nothing s t.element untyped t.next.at a.high;
          closes = λ h. absurd (let y = pre.1 in omega arith);
          short = opening-short s t o.level a;
          own_is = refl;
          elements-is = refl;
        }

    says-opening : (word : ℕ) → saying t.kind o t.element (attrs_of s t) [] word rest
        ≡ event (opens_as o.level t.element (attrs_of s t) [] word) (opening (eqb t.kind 1) (word_at word) (place_behind t.element (place_in o)) rest)
    unfolding saying pick
    says-opening word = rw not_closing

    pub entity-row : (o.level ≡ 0 → ⊥) → 2 ≤ t.element
    entity-row n = entity-element s t o.level (omega arith) deep a tag_placed stands

    pub row-few : t.element < 12
    row-few = tag_placed.deep

    -- What is asked for the names that it gives, and for what is open behind it.
    pub opens-on : Passing t.kind t o
    opens-on = record { few = pre.0; ordered = λ q. attributed-ordered s t a; deep = λ q. deep; inner = λ q r. absurd (let y = pre.1 in omega arith) }

    pub told-clinical : (r : Told) → o.level ≡ 0 → r ≡ going_on 0 t.kind t (no_content t.next.at) o → Going told s t o r
    told-clinical r e q =
        going_of untyped 0 (λ q. refl) (λ h q. omega arith)
        (plain-is untyped ∙ sym (says-opening 0 ∙ rw (e, first) (unfold opens_as tell_below word_at sort_behind pick in refl))) r q
      where
        first : t.element ≡ 1
        first = stands_at (o.level + 1) t.element stands (omega arith) ∙ rw e

        untyped : (element_at t.element).body ≡ none
        untyped = untyped_body t.element (let f = first in omega arith)

    module _ (some' : o.level ≡ 0 → ⊥) (outer own : Optional ℕ) (word : Result ℕ Refusal) (around : outer ≡ word_held (top_word o))
        (by-own : (maybe_word own ≡ given (get (bytes "TransactionType") (attrs_of s t))) × Numbered own)
        (here : word_answered word ≡ word_here snapshot (maybe_word outer) (maybe_word own)) (numbered : Numbered outer → Numbered own → IfOk word (λ n. 1 ≤ n)) where
      word_in_lem : word_in snapshot (place_in o) (attrs_of s t) ≡ word_answered word
      word_in_lem = unfold word_in in (rw (top_in o, ← held-word (top_word o), ← around, ← by-own.0) (sym here))

      below : (element_at t.element).body ≡ none
          → told ≡ (word_answered word ▸ λ w. event (entity t.element (attrs_of s t) [] w) (opening (eqb t.kind 1) (some w) (place_behind t.element (place_in o)) rest))
      below untyped = plain-is untyped ∙ go o.level (o.level - 1) (omega arith)
        where
          go : (n d : ℕ) → n ≡ suc d
              → tell_below snapshot (place_in o) n t.element (attrs_of s t) (eqb t.kind 1) rest
              ≡ (word_answered word ▸ λ w. event (entity t.element (attrs_of s t) [] w) (opening (eqb t.kind 1) (some w) (place_behind t.element (place_in o)) rest))
          go n d e = rw e (unfold tell_below in (rw word_in_lem))

      -- A typed item, by the form of its body.
      typed-is : (f : Form) → (element_at t.element).body ≡ some f
          → told ≡ (word_answered word ▸ λ w. tell_body f (place_in o) t.element (name_of s t) (attrs_of s t) (eqb t.kind 1) w rest)
      typed-is f e = placed-is ∙ rw e (unfold tell_as in rw word_in_lem)

      -- No word is refused, whatever the element.
      pub told_wordless : (k : Refusal) → word ≡ Err k → Halts told (Err k)
      told_wordless k q = refuses told k (by_body (element_at t.element).body refl)
        where
          by_body : (x : Option Form) → (element_at t.element).body ≡ x → told ≡ fault (number_of k)
          by_body none y = below y ∙ rw q (unfold ◌▸◌ in refl)
          by_body (some f) y = typed-is f y ∙ rw q (unfold ◌▸◌ in refl)

      module _ (n : ℕ) (ok : word ≡ Ok n) where
        positive : n ≡ 0 → ⊥
        positive z = let low : 1 ≤ n = rw ok at (numbered (rw around (held-numbered (top_word o))) by-own.1) in omega arith

        at-word : word_at n ≡ some (word_numbered n)
        at-word = unfold word_at pick in (rw (ne_eqb n 0 positive))

        opens-entity : opens_as o.level t.element (attrs_of s t) [] n ≡ entity t.element (attrs_of s t) [] (word_numbered n)
        opens-entity = go o.level (o.level - 1) (omega arith)
          where
            go : (l d : ℕ) → l ≡ suc d → opens_as l t.element (attrs_of s t) [] n ≡ entity t.element (attrs_of s t) [] (word_numbered n)
            go l d e = rw e (unfold opens_as in refl)

        pub told-entity : (r : Told) → (element_at t.element).body ≡ none → r ≡ going_on n t.kind t (no_content t.next.at) o → Going told s t o r
        told-entity r untyped e =
            going_of untyped n (λ q. absurd (some' q)) (λ y q. positive q)
            (below untyped ∙ sym (says-opening n ∙ rw (at-word, opens-entity, ok) (unfold ◌▸◌ in refl))) r e

        pub is-typed : (form : ℕ) → (element_at t.element).body ≡ some (form_numbered form) → Typed s t o n form
        is-typed form y = record { opening = opening_of n (λ q. absurd (some' q)) (λ y q. positive q); named = placed-named (sort_at o.items) (o.level + 1) (name_of s t) (attrs_of s t) t.element well_placed_lem; kinds = pre.1; low = omega arith; body = y }

        pub told_typed : (r : Result (Optional Told) Refusal) (form : ℕ) → (element_at t.element).body ≡ some (form_numbered form) → ToldBy (tell_content s t o n form) s t o r → ToldBy told s t o r
        told_typed r form y j =
            let is : told ≡ tell_content s t o n form = typed-is (form_numbered form) y ∙ rw ok (unfold ◌▸◌ in refl) in
            subst (λ (x : Telling). ToldBy x s t o r) (sym is) j

-- A typed item's body and closing tag.
module _ (s : List ℕ) (t : TagRead) (o : OpenElements) (word form : ℕ) (typed : Typed s t o word form) where
  abbrev says : Telling
  says = tell_content s t o word form

  pub content-refused : (k : Refusal) → ContentRead s t.next.at (content (eqb t.kind 1) (name_of s t) (drop t.next.at s)) (Err k) → Halts says (Err k)
  unfolding tell_body ◌▸◌
  content-refused k held = refuses says k (rw (← held.is))

  module _ (c : Content) (held : ContentRead s t.next.at (content (eqb t.kind 1) (name_of s t) (drop t.next.at s)) (Ok c)) where
    abbrev text : List ℕ
    text = content_text s c

    content-is : content (eqb t.kind 1) (name_of s t) (drop t.next.at s) ≡ accepted (read text (drop c.next.at s))
    content-is = sym held.is

    pub content-stretch : BodyStretch s c.start c.end c.kind
    content-stretch = held.places.stretch

    pub content_printable : all is_value_byte text ≡ true
    content_printable = content-values (eqb t.kind 1) (name_of s t) (drop t.next.at s) (read text (drop c.next.at s)) content-is

    pub content_unfit : (b : Bool) → b ≡ body_fits (form_numbered form) text → b ≡ false → Halts says (Err Value)
    content_unfit b y n = refuses says Value (unfold tell_body ◌▸◌ in (rw content-is (unfold unless ◌▸◌ in rw (← y, n))))

    pub item_on : Passing 1 t o
    item_on = let a = typed.opening in record { few = (let d = a.deep in omega arith); ordered = λ q. attributed-ordered s t a.attributed; deep = λ q. absurd (omega arith); inner = λ q r. absurd (r refl) }

    pub content-fits : (r : Told) (b : Bool) → b ≡ body_fits (form_numbered form) text → b ≡ true → r ≡ going_on word 1 t c o → Going says s t o r
    content-fits r b y n e =
        rw e
        record {
          is = item-is ∙ (unfold saying pick in says-item);
          high = held.places.high;
          kinds = omega arith;
          opening = λ h. typed.kinds;
          closing = λ h. absurd (omega arith);
          opens = λ h. typed.opening;
          holding = λ h. record { stretch = held.places.stretch; bodied = rw typed.body fits' };
          closes = λ h. absurd (omega arith);
          short = opening-short s t o.level typed.opening.attributed;
          own_is = refl;
          elements-is = refl;
        }
      where
        fits' : body_fits (form_numbered form) text ≡ true
        fits' = sym y ∙ n

        item-is : says ≡ event (entity t.element (attrs_of s t) text (word_numbered word)) (opening true (some (word_numbered word)) (place_behind t.element (place_in o)) (drop c.next.at s))
        item-is = unfold tell_body ◌▸◌ in (rw content-is (unfold unless ◌▸◌ in rw fits'))

        says-item : event (entity t.element (attrs_of s t) text (word_numbered word)) (opening true (some (word_numbered word)) (place_behind t.element (place_in o)) (drop c.next.at s))
            ≡ event (opens_as o.level t.element (attrs_of s t) text word) (opening true (word_at word) (place_behind t.element (place_in o)) (drop c.next.at s))
        says-item =
            let low = typed.low in
            let w : word_at word ≡ some (word_numbered word) = unfold word_at pick in (rw (ne_eqb word 0 (typed.opening.entity typed.low))) in
            rw w (go o.level (o.level - 1) (omega arith))
          where
            go : (n d : ℕ) → n ≡ suc d
                → event (entity t.element (attrs_of s t) text (word_numbered word)) (opening true (some (word_numbered word)) (place_behind t.element (place_in o)) (drop c.next.at s))
                ≡ event (opens_as n t.element (attrs_of s t) text word) (opening true (some (word_numbered word)) (place_behind t.element (place_in o)) (drop c.next.at s))
            go n d e = rw e (unfold opens_as in refl)

-- The number of the form of a body says whether there is one.
module _ (e n : ℕ) (is : n ≡ body_code (element_at e).body) where
  pub body_none : n ≡ 0 → (element_at e).body ≡ none
  body_none z = go (element_at e).body (sym is ∙ z)
    where
      go : (o : Option Form) → body_code o ≡ 0 → o ≡ none
      go none h = refl
      go (some f) h = absurd (code_some f (unfold body_code in h))

  pub body_some : (n ≡ 0 → ⊥) → (element_at e).body ≡ some (form_numbered n)
  body_some z = go (element_at e).body is
    where
      go : (o : Option Form) → n ≡ body_code o → o ≡ some (form_numbered n)
      go none h = let e : n ≡ 0 = unfold body_code in h in absurd (z e)
      go (some f) h = let e : n ≡ form_number f = unfold body_code in h in rw e (ap some (sym (number-form f)))

-- Whether the text of a body fits.
module _ (f : Form) where
  pub fits-null : (v : List ℕ) → length v ≡ 0 → true ≡ body_fits f v
  fits-null [] z = unfold body_fits is_null in refl
  fits-null (c ∷ v) z = absurd (omega arith)

  pub fits-long : (v : List ℕ) → value_most < length v → false ≡ body_fits f v
  fits-long [] z = absurd (omega arith)
  fits-long (c ∷ v) z = unfold body_fits is_null is_value is_text_of in (rw (lt-leb (length (c ∷ v)) value_most z) (unfold ◌and◌ in refl))

  pub fits_told : (v : List ℕ) (b : Bool) → (length v ≡ 0 → ⊥) → length v ≤ value_most → all is_value_byte v ≡ true → b ≡ has_form f v → b ≡ body_fits f v
  fits_told [] b z few p h = absurd (z refl)
  fits_told (c ∷ v) b z few p h = unfold body_fits is_null is_value is_text_of in (rw (le-leb (length (c ∷ v)) value_most few, p) (unfold ◌and◌ in h))

pub ruleset fits-cases = (fits-null, fits-long, fits_told)

-- It is the bytes in the file,
module _ (s : List ℕ) (a e kind : ℕ) (t : Bool) (w : AsWritten s a e kind t) where
  module _ (y : t ≡ true) where
    pub written_printable : all is_value_byte (body_text s a e kind) ≡ true → all is_value_byte (part s a e) ≡ true
    written_printable p = rw (w.is y) at p

    pub written-fits : (f : Form) (b : Bool) → b ≡ body_fits f (part s a e) → b ≡ body_fits f (body_text s a e kind)
    written-fits f b q = rw (w.is y) q

  -- or those decoded.
  module _ (y : t ≡ false) (held : List ℕ) where
    pub held-long : (f : Form) → ValueHeld (or_else [] (decode (part s a e))) held None → false ≡ body_fits f (body_text s a e kind)
    held-long f h = fits-long f _ (text-held s a e kind t w y held None h)

    module _ (n : ℕ) (h : ValueHeld (or_else [] (decode (part s a e))) held (Some n)) where
      pub held_printable : all is_value_byte (body_text s a e kind) ≡ true → all is_value_byte (take (n - 0) held) ≡ true
      held_printable p = rw (held-text s a e kind t w y held n h) p

      pub held_fits : (f : Form) (b : Bool) → b ≡ body_fits f (take (n - 0) held) → b ≡ body_fits f (body_text s a e kind)
      held_fits f b q = rw (held-text s a e kind t w y held n h) at q

-- A closing tag.
pub level_below : (n : ℕ) → n ≤ 6 → n < 12
level_below n h = omega arith

module _ (s : List ℕ) (t : TagRead) (o : OpenElements) (pre : (o.level ≤ 6) × (t.kind ≡ 2)) (b : Bool) (test : b ≡ same (name_of s t) (element_at o.level).name) where
  abbrev shut : Telling
  shut = tell_closing (place_in o) (place_in o).words (name_of s t) (drop t.next.at s)

  pub told_wrong : not b ≡ true → Halts shut (Err WrittenForm)
  told_wrong h =
      refuses shut WrittenForm
      (go (words_in o.level o.words) (rw (words-many o.level o.words, ← test) (not-true b h)))
    where
      go : (ws : List (Option Word)) → same (name_of s t) (element_at (length ws)).name ≡ false → tell_closing (place_in o) ws (name_of s t) (drop t.next.at s) ≡ fault 4
      go [] e = unfold tell_closing unless ◌▸◌ in rw e
      go (w ∷ ws) e = unfold tell_closing unless ◌▸◌ in rw e

  module _ (h : not b ≡ false) (inside : (t.name ≤ t.name_end) × (t.name_end ≤ length s) × (t.next.at ≤ length s)) where
    right : same (name_of s t) (element_at o.level).name ≡ true
    right = sym test ∙ not-false b h

    pub told_finished : (w : Result (Unit {0}) Refusal) → o.level ≡ 0 → said w ≡ unless (is_nil (skip (drop t.next.at s))) 4 → Halts shut w
    unfolding run ◌>>=◌ go_on
    told_finished w z v = λ m p g. rw ends (sym (said-end w (drop t.next.at s) p.added v))
      where
        ends : shut ≡ finishes (drop t.next.at s)
        ends = rw z (at_bottom _ (rw z at right))
          where
            at_bottom : (x : Place) → same (name_of s t) (element_at 0).name ≡ true → tell_closing x (words_in 0 o.words) (name_of s t) (drop t.next.at s) ≡ finishes (drop t.next.at s)
            at_bottom x r = unfold words_in tell_closing unless ◌▸◌ in rw r

    pub leaves-on : (o.level ≡ 0 → ⊥) → Passing t.kind t o
    leaves-on z = let y = pre.1 in record { few = pre.0; ordered = λ q. absurd (q y); deep = λ q. absurd (omega arith); inner = λ q r. omega arith }

    pub told-leaving : (r : Told) (word : ℕ) → (o.level ≡ 0 → ⊥) → word ≡ top_word o → r ≡ going_on word t.kind t (no_content t.next.at) o → Going shut s t o r
    told-leaving r word z e f =
        rw f
        record {
          is = leaves-is;
          high = inside.2;
          kinds = (let q = pre.1 in omega arith);
          opening = λ y. y;
          closing = λ y. y;
          holding = λ y. absurd (let q = pre.1 in omega arith);
          opens = λ y. absurd (let q = pre.1 in omega arith);
          closes = λ y. record { inner = omega arith; word-is = e };
          short = closing-short s t o.level pre.1;
          own_is = refl;
          elements-is = refl;
        }
      where
        leaves-is : shut ≡ saying t.kind o t.element (attrs_of s t) (content_text s (no_content t.next.at)) word (drop t.next.at s)
        leaves-is =
            let top = words_top o.level (o.level - 1) o.words (omega arith) in
            let many : length (words_in o.level o.words) ≡ o.level = words-many o.level o.words in
            shut_at (words_in o.level o.words) _ _ top (rw many right)
            ∙ sym (unfold saying pick in rw (eq-eqb t.kind 2 pre.1))
          where
            shut_at : (ws : List (Option Word)) (v : Option Word) (vs : List (Option Word)) → ws ≡ v ∷ vs → same (name_of s t) (element_at (length ws)).name ≡ true
                → tell_closing (place_in o) ws (name_of s t) (drop t.next.at s) ≡ event leaves (goes (place vs (sort_at o.items)) (drop t.next.at s))
            shut_at [] v vs e r = absurd (nil≢cons e)
            shut_at (x ∷ xs) v vs e r = unfold tell_closing unless ◌▸◌ in (rw r (ap (λ (ys : List (Option Word)). event leaves (goes (place ys (sort_at o.items)) (drop t.next.at s))) (tail-eq_of_cons-eq e)))

-- What a tag that is not broken leaves to be asked.
module _ (s : List ℕ) (level : ℕ) (t : TagRead) (f : (t.kind ≡ 3 → ⊥) → Readable s level t) (n : t.kind ≡ 3 → ⊥) where
  pub closing_asks : (t.name ≤ t.name_end) × (t.name_end ≤ length s) × (t.next.at ≤ length s)
  closing_asks = let w = f n in (w.named, w.inside, w.high)

  module _ (h : t.kind ≡ 2 → ⊥) where
    pub opening-kind : t.kind < 2
    opening-kind = let k = (f n).kinds in omega arith

    pub opening-row : t.element ≡ row_here level (name_of s t)
    opening-row = (f n).row opening-kind

    pub opening-read : Attributed s t
    opening-read = (f n).attributed opening-kind

-- What the fault of an opening tag is asked for.
pub fault_level : (l : ℕ) → l ≤ 6 → l + 1 < 8
fault_level l h = omega arith

module _ (s : List ℕ) (level : ℕ) (t : TagRead) (f : (t.kind ≡ 3 → ⊥) → Readable s level t) (h : t.kind < 2) where
  pub fault-row : t.element ≡ row_here level (name_of s t)
  fault-row = (f (λ e. omega arith)).row h

  pub fault-read : Attributed s t
  fault-read = (f (λ e. omega arith)).attributed h

-- Any tag.
module _ (s : List ℕ) (t : TagRead) (snapshot : Bool) (o : OpenElements) where
  pub told-broken : t.kind ≡ 3 → Halts (telling snapshot (place_in o) s t) (Err WrittenForm)
  unfolding telling pick
  told-broken e = refuses _ WrittenForm (rw e)

  pub told-closing : (r : Result (Optional Told) Refusal) → t.kind ≡ 2 → ToldBy (tell_closing (place_in o) (place_in o).words (name_of s t) (drop t.next.at s)) s t o r → ToldBy (telling snapshot (place_in o) s t) s t o r
  told-closing r e j = subst (λ (x : Telling). ToldBy x s t o r) (sym is) j
    where
      is : telling snapshot (place_in o) s t ≡ tell_closing (place_in o) (place_in o).words (name_of s t) (drop t.next.at s)
      is = unfold telling tag_of tell pick in rw e

  pub told-opening : (r : Result (Optional Told) Refusal) → (t.kind ≡ 3 → ⊥) → ToldBy (tell snapshot (place_in o) (tag_of s t) (drop t.next.at s)) s t o r → ToldBy (telling snapshot (place_in o) s t) s t o r
  unfolding telling pick
  told-opening r n j = rw (ne_eqb t.kind 3 n) j

  -- One that is not well placed.
  pub told-misplaced : o.level ≤ 6 → ((t.kind ≡ 3 → ⊥) → Readable s (o.level + 1) t) → (k : Refusal)
      → (t.kind < 2 → refused (number_of k) ≡ well_placed (sort_at o.items) (o.level + 1) (name_of s t) (attrs_of s t))
      → (2 ≤ t.kind → ◌≡◌ {A = Result (Unit {0}) Refusal} (Err k) (Ok tt)) → Halts (telling snapshot (place_in o) s t) (Err k)
  told-misplaced few f k judged passed =
      told-opening (Err k) (λ q. let h = opens in omega arith)
      (told_misplaced s t snapshot o (few, opens, fault-row s _ t f opens) (fault-read s _ t f opens) k (judged opens))
    where
      go : (b : Bool) → ltb t.kind 2 ≡ b → t.kind < 2
      go true q = ltb-true t.kind 2 q
      go false q = let w = passed (ltb-false t.kind 2 q) in let y : ◌≡◌ {A = ℕ} 0 1 = cc in absurd (omega arith)

      opens : t.kind < 2
      opens = go (ltb t.kind 2) refl
