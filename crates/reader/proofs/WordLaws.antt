-- The word of an element: the number of a text, and the word by those of the element around it and its own.
use mathlib.Core.Path.{◌≡◌, refl, sym, ◌∙◌}
use mathlib.Core.Bool.{Bool, true, false, not, ◌||◌, false≢true}
use mathlib.Core.List.{List, []}
use mathlib.Core.Option.{none, some}
use Prim.Native.Nat.{ℕ, zero, suc, ◌≤◌, ◌<◌}
use native.Mathlib.Decide.{ℕ_discrete}
use native.Mathlib.Omega.{arith}
use lib.Dec.{eqb}
use lib.ListN.{length, get_or}
use borrow.Author.Tests.{ne_eqb}
use Rattle.names.specs.Bytes.{bytes, any}
use Rattle.names.specs.Order.{alike, same}
use Rattle.names.specs.Pick.{pick, ◌and◌}
use Rattle.names.proofs.Ordered.{same_eq, same_sym}
use Rattle.names.proofs.PickLaws.{pick_yes, pick_no}
use Rattle.std.specs.Prelude.{Option as Optional, Some, None, is_some, Result, Ok, Err, ok_or}
use Rattle.store.specs.Answer.{accepted, ◌>>=◌, ◌>>◌, unless}
use Rattle.store.specs.declared.answer.Refusal.{Refusal}
use Rattle.store.specs.declared.answer.Refusal.TheVariants.{Word as NoWord}
use Rattle.store.specs.Word.{insert, update, upsert, remove, context, word_text}
use Rattle.store.specs.code.Deciding.{word_numbered}
use Rattle.reader.specs.Element.{name, word, words, elements, element_at, attribute_at, has_form, or_else, get, formed_by}
use Rattle.reader.specs.code.Placed.{Placed}
use Rattle.reader.specs.code.Found.{attrs_of}
use Rattle.reader.specs.Tell.{word_of, given, is_insert, is_remove, word_here}
use Rattle.reader.specs.code.Places.{part}
use Rattle.reader.specs.declared.cursor.TagRead.{TagRead}
use Rattle.reader.specs.code.Answered.{Attributed, plain_at}
use Rattle.reader.specs.code.OpenElements.{maybe_word, word_or_context, Numbered, word_answered, word_place}
use Rattle.reader.specs.code.Values.{is_plain_form, row_at, plain_form}
use Rattle.reader.proofs.Forms.{formed-at}
use Rattle.reader.proofs.PlainValues.{plain_value}

unfoldable word_forms : Unit {0}
unfolding has_form any words word_text same alike ◌and◌
word_forms = tt

-- The words by their numbers.
pub insert-is : word_numbered 1 ≡ insert
unfolding word_numbered pick
insert-is = refl

pub update-is : word_numbered 2 ≡ update
unfolding word_numbered pick
update-is = refl

pub upsert-is : word_numbered 3 ≡ upsert
unfolding word_numbered pick
upsert-is = refl

pub remove-is : word_numbered 4 ≡ remove
unfolding word_numbered pick
remove-is = refl

pub context-is : word_numbered 5 ≡ context
unfolding word_numbered pick
context-is = refl

-- A text is one of the five words, or none.
module _ (v : List ℕ) (t : Bool) where
  same_word : (w : List ℕ) → has_form word w ≡ true → t ≡ same v w → t ≡ true → true ≡ has_form word v
  same_word w h e f = rw (same_eq v w (sym e ∙ f)) (sym h)

  pub word-insert : t ≡ same v (bytes "Insert") → t ≡ true → true ≡ has_form word v
  word-insert = same_word (bytes "Insert") (unfold word_forms in refl)

  pub word-update : t ≡ same v (bytes "Update") → t ≡ true → true ≡ has_form word v
  word-update = same_word (bytes "Update") (unfold word_forms in refl)

  pub word-upsert : t ≡ same v (bytes "Upsert") → t ≡ true → true ≡ has_form word v
  word-upsert = same_word (bytes "Upsert") (unfold word_forms in refl)

  pub word-remove : t ≡ same v (bytes "Remove") → t ≡ true → true ≡ has_form word v
  word-remove = same_word (bytes "Remove") (unfold word_forms in refl)

  pub word-context : t ≡ same v (bytes "Context") → t ≡ true → true ≡ has_form word v
  word-context = same_word (bytes "Context") (unfold word_forms in refl)

pub word_none : (v : List ℕ) (a b c d e : Bool) → a ≡ same v (bytes "Insert") → a ≡ false → b ≡ same v (bytes "Update") → b ≡ false
    → c ≡ same v (bytes "Upsert") → c ≡ false → d ≡ same v (bytes "Remove") → d ≡ false → e ≡ same v (bytes "Context") → e ≡ false → false ≡ has_form word v
unfolding has_form any words word_text
word_none v a b c d e f f' g g' h h' i i' j j' =
    sym (rw (
      same_sym (bytes "Insert") v,
      same_sym (bytes "Update") v,
      same_sym (bytes "Upsert") v,
      same_sym (bytes "Remove") v,
      same_sym (bytes "Context") v,
      sym f ∙ f',
      sym g ∙ g',
      sym h ∙ h',
      sym i ∙ i',
      sym j ∙ j',
    ))

-- The number of a text, by the code's tests one after the other.
module _ (v : List ℕ) (a : Bool) (ea : a ≡ same v (bytes "Insert")) where
  abbrev Says : Optional ℕ → Type 0
  Says r = (word_or_context r ≡ word_of v) × (is_some r ≡ has_form word v) × Numbered r

  pub number-insert : a ≡ true → Says (Some 1)
  unfolding word_of word_text or_else maybe_word
  number-insert y = (pick_yes a _ _ _ _ ea y insert-is, word-insert v a ea y, omega arith)

  module _ (na : a ≡ false) (b : Bool) (eb : b ≡ same v (bytes "Update")) where
    pub number-update : b ≡ true → Says (Some 2)
    unfolding word_of word_text or_else maybe_word
    number-update y = (pick_no a _ _ _ _ ea na (pick_yes b _ _ _ _ eb y update-is), word-update v b eb y, omega arith)

    module _ (nb : b ≡ false) (c : Bool) (ec : c ≡ same v (bytes "Upsert")) where
      pub number-upsert : c ≡ true → Says (Some 3)
      unfolding word_of word_text or_else maybe_word
      number-upsert y = (pick_no a _ _ _ _ ea na (pick_no b _ _ _ _ eb nb (pick_yes c _ _ _ _ ec y upsert-is)), word-upsert v c ec y, omega arith)

      module _ (nc : c ≡ false) (d : Bool) (ed : d ≡ same v (bytes "Remove")) where
        pub number-remove : d ≡ true → Says (Some 4)
        unfolding word_of word_text or_else maybe_word
        number-remove y =
            (pick_no a _ _ _ _ ea na (pick_no b _ _ _ _ eb nb (pick_no c _ _ _ _ ec nc (pick_yes d _ _ _ _ ed y remove-is))), word-remove v d ed y, omega arith)

        module _ (nd : d ≡ false) (e : Bool) (ee : e ≡ same v (bytes "Context")) where
          context_of : word_of v ≡ context
          unfolding word_of word_text
          context_of = sym (pick_no a _ _ _ _ ea na (pick_no b _ _ _ _ eb nb (pick_no c _ _ _ _ ec nc (pick_no d _ _ _ _ ed nd refl))))

          pub number-context : e ≡ true → Says (Some 5)
          unfolding or_else maybe_word
          number-context y = (context-is ∙ sym context_of, word-context v e ee y, omega arith)

          pub number_none : e ≡ false → Says None
          unfolding or_else maybe_word
          number_none n = (sym context_of, word_none v a b c d e ea na eb nb ec nc ed nd ee n, tt)

-- Which number is Insert's and which is Remove's.
pub insert-told : (n : ℕ) → is_insert (word_numbered n) ≡ eqb n 1
unfolding word_numbered pick is_insert
insert-told n = go (eqb n 1) (eqb n 2) (eqb n 3) (eqb n 4)
  where
    go : (a b c d : Bool) → is_insert (pick a insert (pick b update (pick c upsert (pick d remove context)))) ≡ a
    go true b c d = refl
    go false true c d = refl
    go false false true d = refl
    go false false false true = refl
    go false false false false = refl

no-remove : (n : ℕ) → (n ≡ 4 → ⊥) → is_remove (word_numbered n) ≡ false
unfolding word_numbered pick is_remove
no-remove n h = rw (ne_eqb n 4 h) (go (eqb n 1) (eqb n 2) (eqb n 3))
  where
    go : (a b c : Bool) → is_remove (pick a insert (pick b update (pick c upsert context))) ≡ false
    go true b c = refl
    go false true c = refl
    go false false true = refl
    go false false false = refl

pub remove-told : (n : ℕ) → is_remove (word_numbered n) ≡ eqb n 4
unfolding is_remove
remove-told n = elim (ℕ_discrete n 4) [ yes e ↦ rw (e, remove-is) | no h ↦ rw (no-remove n h, ne_eqb n 4 h) ]

-- The word by the two numbers, at each return of the code.
module _ (snapshot : Bool) (outer own : Optional ℕ) where
  abbrev Answers : Result ℕ Refusal → Type 0
  Answers r = word_answered r ≡ word_here snapshot (maybe_word outer) (maybe_word own)

  pub snapshot-absent : snapshot ≡ true → own ≡ None → Answers (Ok 1)
  unfolding word_here maybe_word word_numbered pick
  snapshot-absent e f = rw (e, f)

  pub snapshot-insert : (n : ℕ) → snapshot ≡ true → own ≡ Some n → n ≡ 1 → Answers (Ok 1)
  unfolding word_here maybe_word word_numbered pick is_insert unless ◌>>◌ ◌>>=◌
  snapshot-insert n e f g = rw (e, f, g)

  pub snapshot-other : (n : ℕ) → snapshot ≡ true → own ≡ Some n → (n ≡ 1 → ⊥) → Answers (Err NoWord)
  unfolding word_here maybe_word unless ◌>>◌ ◌>>=◌
  snapshot-other n e f g = rw (e, f, insert-told n, ne_eqb n 1 g)

  pub outer_word : (r : Result ℕ Refusal) → snapshot ≡ false → own ≡ None → r ≡ ok_or outer NoWord → Answers r
  unfolding word_here maybe_word
  outer_word r e f g = rw (e, f, g) (go outer)
    where
      go : (x : Optional ℕ) → word_answered (ok_or x NoWord) ≡ word_here false (maybe_word x) none
      go None = refl
      go (Some n) = refl

  pub own_alone : (n : ℕ) → snapshot ≡ false → own ≡ Some n → outer ≡ None → Answers (Ok n)
  unfolding word_here maybe_word
  own_alone n e f g = rw (e, f, g)

  pub own_word : (n m : ℕ) → snapshot ≡ false → own ≡ Some n → outer ≡ Some m → (m ≡ 4 → ⊥) → Answers (Ok n)
  unfolding word_here maybe_word unless ◌>>◌ ◌>>=◌
  own_word n m e f g h = rw (e, f, g, no-remove m h)

  pub remove_own : (n : ℕ) → snapshot ≡ false → own ≡ Some n → n ≡ 4 → Answers (Ok 4)
  unfolding word_here maybe_word word_numbered pick is_remove unless ◌>>◌ ◌>>=◌
  remove_own n e f g = rw (e, f, g) (go outer)
    where
      either : (b : Bool) → (not b || true) ≡ true
      either true = refl
      either false = refl

      go : (x : Optional ℕ) → accepted remove ≡ word_here false (maybe_word x) (some remove)
      go None = refl
      go (Some m) = rw (either (is_remove (word_numbered m)))

  pub remove-broken : (n m : ℕ) → snapshot ≡ false → own ≡ Some n → outer ≡ Some m → m ≡ 4 → (n ≡ 4 → ⊥) → Answers (Err NoWord)
  unfolding word_here maybe_word unless ◌>>◌ ◌>>=◌
  remove-broken n m e f g q h = rw (e, f, g, q, remove-told 4, no-remove n h)

pub ruleset word-cases = (snapshot-absent, snapshot-insert, snapshot-other, outer_word, own_alone, own_word, remove_own, remove-broken)

-- TransactionType among the attributes of each entity's element.
place-named : (e : ℕ) → 2 ≤ e → e < 12
    → (attribute_at e (word_place e) ≡ bytes "TransactionType") × (plain_form e (word_place e) ≡ true)
    × (word_place e < length (element_at e).attributes) × ((get_or (element_at e).attributes (word_place e) record { name = []; required = false; form = name }).form ≡ word)
unfolding attribute_at element_at elements word_place plain_form row_at is_plain_form pick ◌and◌
place-named zero l h = absurd (omega arith)
place-named (suc zero) l h = absurd (omega arith)
place-named (suc (suc zero)) l h = (refl, refl, omega arith, refl)
place-named (suc (suc (suc zero))) l h = (refl, refl, omega arith, refl)
place-named (suc (suc (suc (suc zero)))) l h = (refl, refl, omega arith, refl)
place-named (suc (suc (suc (suc (suc zero))))) l h = (refl, refl, omega arith, refl)
place-named (suc (suc (suc (suc (suc (suc zero)))))) l h = (refl, refl, omega arith, refl)
place-named (suc (suc (suc (suc (suc (suc (suc zero))))))) l h = (refl, refl, omega arith, refl)
place-named (suc (suc (suc (suc (suc (suc (suc (suc zero)))))))) l h = (refl, refl, omega arith, refl)
place-named (suc (suc (suc (suc (suc (suc (suc (suc (suc zero))))))))) l h = (refl, refl, omega arith, refl)
place-named (suc (suc (suc (suc (suc (suc (suc (suc (suc (suc zero)))))))))) l h = (refl, refl, omega arith, refl)
place-named (suc (suc (suc (suc (suc (suc (suc (suc (suc (suc (suc zero))))))))))) l h = (refl, refl, omega arith, refl)
place-named (suc (suc (suc (suc (suc (suc (suc (suc (suc (suc (suc (suc e)))))))))))) l h = absurd (omega arith)

-- Where its value stands.
module _ (s : List ℕ) (j : ℕ) (t : TagRead) (found : Attributed s t) where
  pub value-order : j < 8 → get_or t.found.starts j 0 ≤ get_or t.found.ends j 0
  value-order h = found.holds.order j h

  pub value-inside : j < 8 → get_or t.found.ends j 0 ≤ length s
  value-inside h = found.holds.inside j h

  module _ (place : j ≡ word_place t.element) (low : 2 ≤ t.element) (well : Placed t.element (attrs_of s t)) where
    word_value : get (bytes "TransactionType") (attrs_of s t) ≡ plain_at s t j
    word_value =
        let p = place-named t.element low well.deep in
        rw (← p.0, place) (plain_value s t.element (word_place t.element) t refl found well p.1)

    pub word-absent : get_or t.found.starts j 0 ≡ 0 → maybe_word None ≡ given (get (bytes "TransactionType") (attrs_of s t))
    unfolding maybe_word given plain_at pick
    word-absent e = rw (word_value, e)

    -- A word of its form has a number.
    word-formed : (get_or t.found.starts j 0 ≡ 0 → ⊥) → has_form word (part s (get_or t.found.starts j 0) (get_or t.found.ends j 0)) ≡ true
    unfolding plain_at pick formed_by
    word-formed f =
        let p = place-named t.element low well.deep in
        let q : formed_by word (get (bytes "TransactionType") (attrs_of s t)) ≡ true = rw (← p.0) (formed-at t.element (attrs_of s t) well (word_place t.element) word p.2 p.3) in
        rw (word_value, ne_eqb (get_or t.found.starts j 0) 0 f) at q

    pub word_found : (r : Optional ℕ) → (get_or t.found.starts j 0 ≡ 0 → ⊥) → word_or_context r ≡ word_of (part s (get_or t.found.starts j 0) (get_or t.found.ends j 0))
        → is_some r ≡ has_form word (part s (get_or t.found.starts j 0) (get_or t.found.ends j 0)) → maybe_word r ≡ given (get (bytes "TransactionType") (attrs_of s t))
    unfolding maybe_word or_else given plain_at pick
    word_found None f e h = absurd (false≢true (h ∙ word-formed f))
    word_found (Some n) f e h = rw (word_value, ne_eqb (get_or t.found.starts j 0) 0 f, e)

pub ruleset own-words = (word-absent, word_found)
