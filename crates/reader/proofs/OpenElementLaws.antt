-- The open elements as the code holds them: what opening or closing one leaves of the others.
use mathlib.Core.Path.{◌≡◌, refl, sym, ◌∙◌}
use mathlib.Core.Bool.{Bool, true, false}
use mathlib.Core.List.{List, ◌∷◌}
use mathlib.Core.Option.{none, some}
use Prim.Native.Nat.{ℕ, zero, suc, ◌+◌, ◌-◌, ◌≤◌, ◌<◌}
use native.Mathlib.Numerals.{add-one}
use native.Mathlib.Omega.{arith}
use lib.Dec.{eqb, ltb}
use lib.ListN.{length, take, get_or, set}
use lib.Seq.{take-take, get_or-set_same, get_or-set_other}
use borrow.Author.Tests.{ne_eqb, eqb-true, eqb-false, lt-ltb, ltb-false}
use native.Mathlib.Decide.{ℕ_discrete}
use Rattle.std.specs.Prelude.{Some, None, unwrap_or}
use Rattle.names.specs.Key.{Name, names_used}
use Rattle.names.specs.Pick.{pick}
use Rattle.names.proofs.KeyDepth.{used_rises}
use Rattle.store.specs.code.Deciding.{word_numbered}
use Rattle.reader.specs.Element.{item, sort_behind}
use Rattle.reader.specs.Judge.{frame}
use Rattle.reader.specs.code.OpenElements.{word_at, maybe_word, Numbered, frames_in, frames_of, word_held, top_word, sort_number, one_more, one_less, moved_by}
use Rattle.reader.specs.code.Values.{sort_at}
use Rattle.reader.specs.declared.open_elements.OpenElements.{OpenElements}

-- The innermost, and the others.
frames_top : (n l : ℕ) (k : List Name) (ws : List ℕ) → n ≡ l + 1 → frames_in n k ws ≡ frame (take (names_used l) k) (word_at (get_or ws l 0)) (eqb (get_or ws l 0) 4) ∷ frames_in l k ws
unfolding frames_in
frames_top n l k ws e = rw (e, add-one)

pub frames-left : (o : OpenElements) (k : List Name) → 1 ≤ o.level
    → frames_of o k ≡ frame (take (names_used (o.level - 1)) k) (word_at (get_or o.words (o.level - 1) 0)) (eqb (get_or o.words (o.level - 1) 0) 4) ∷ frames_of (one_less o) k
frames-left o k h = frames_top o.level (o.level - 1) k o.words (omega arith)

-- They are told by the front of the names and by the words of so many.
frames-same : (m : ℕ) (k j : List Name) (ws vs : List ℕ) → ((l : ℕ) → l < m → take (names_used l) k ≡ take (names_used l) j)
    → ((l : ℕ) → l < m → get_or ws l 0 ≡ get_or vs l 0) → frames_in m k ws ≡ frames_in m j vs
unfolding frames_in
frames-same zero k j ws vs f g = refl
frames-same (suc m) k j ws vs f g = rw (f m (omega arith), g m (omega arith), frames-same m k j ws vs (λ l h. f l (omega arith)) (λ l h. g l (omega arith)))

pub frames-opened : (o : OpenElements) (k : List Name) (word : ℕ) → o.level < length o.words
    → frames_of (one_more o word) k ≡ frame (take (names_used o.level) k) (word_at word) (eqb word 4) ∷ frames_of o k
frames-opened o k word h =
    let ws : List ℕ = set o.words o.level word in
    let here : get_or ws o.level 0 ≡ word = get_or-set_same o.words o.level word 0 h in
    let others : frames_in o.level k ws ≡ frames_of o k =
    frames-same o.level k k ws o.words (λ l b. refl) (λ l b. get_or-set_other o.words o.level l word 0 (λ e. omega arith)) in
    frames_top (o.level + 1) o.level k ws refl ∙ rw (here, others)

pub frames-kept : (l : ℕ) (k j : List Name) (ws : List ℕ) → l ≤ 6 → take (names_used (l - 1)) k ≡ take (names_used (l - 1)) j → frames_in l k ws ≡ frames_in l j ws
frames-kept l k j ws h e =
    frames-same l k j ws ws
    (λ i b. let r : names_used i ≤ names_used (l - 1) = used_rises i (l - 1) (omega arith) (omega arith) in
    sym (take-take (names_used i) (names_used (l - 1)) k r) ∙ rw e (take-take (names_used i) (names_used (l - 1)) j r))
    (λ i b. refl)

pub frames-length : (l : ℕ) (k : List Name) (ws : List ℕ) → length (frames_in l k ws) ≡ l
unfolding frames_in
frames-length zero k ws = refl
frames-length (suc l) k ws = rw (frames-length l k ws)

-- The innermost one's word.
pub word-none : (o : OpenElements) → o.level ≡ 0 → None ≡ word_held (top_word o)
unfolding word_held top_word pick
word-none o e = rw e

pub word-zero : (o : OpenElements) → (o.level ≡ 0 → ⊥) → get_or o.words (o.level - 1) 0 ≡ 0 → None ≡ word_held (top_word o)
unfolding word_held top_word pick
word-zero o h e = rw (ne_eqb o.level 0 h, e)

pub word-some : (o : OpenElements) → (o.level ≡ 0 → ⊥) → (get_or o.words (o.level - 1) 0 ≡ 0 → ⊥) → Some (get_or o.words (o.level - 1) 0) ≡ word_held (top_word o)
unfolding word_held top_word pick
word-some o h e = rw (ne_eqb o.level 0 h, ne_eqb (get_or o.words (o.level - 1) 0) 0 e)

-- A number that is held is its word's, where there is one.
pub held-word : (n : ℕ) → maybe_word (word_held n) ≡ word_at n
unfolding maybe_word word_held word_at pick
held-word n = go (eqb n 0)
  where
    go : (b : Bool) → maybe_word (pick b None (Some n)) ≡ pick b none (some (word_numbered n))
    go true = refl
    go false = refl

pub held-numbered : (n : ℕ) → Numbered (word_held n)
unfolding word_held pick
held-numbered n = elim (ℕ_discrete n 0) [ yes e ↦ rw e tt | no h ↦ rw (ne_eqb n 0 h) (omega arith) ]

pub held-back : (n : ℕ) → unwrap_or (word_held n) 0 ≡ n
unfolding word_held pick
held-back n = elim (ℕ_discrete n 0) [ yes e ↦ rw e | no h ↦ rw (ne_eqb n 0 h) ]

pub no_word : (o : OpenElements) → o.level ≡ 0 → 0 ≡ top_word o
unfolding top_word pick
no_word o e = rw e

pub some_top : (o : OpenElements) → (o.level ≡ 0 → ⊥) → get_or o.words (o.level - 1) 0 ≡ top_word o
unfolding top_word pick
some_top o h = rw (ne_eqb o.level 0 h)

-- The sort of the items behind an element.
pub sort_behind_lem : (e n : ℕ) → sort_at (sort_number e n) ≡ sort_behind e (sort_at n)
unfolding sort_number sort_behind
sort_behind_lem e n = by (ltb e item) refl
  where
    at : (b c : Bool) → ltb e item ≡ false → eqb e item ≡ c → sort_at (pick c 1 2) ≡ some (ltb item e)
    at b true h z = rw (eqb-true e item z) (unfold sort_at pick in refl)
    at b false h z =
        let low : item ≤ e = ltb-false e item h in
        let n = eqb-false e item z in
        let above : ltb item e ≡ true = lt-ltb item e (omega arith) in
        rw above (unfold sort_at pick in refl)

    by : (b : Bool) → ltb e item ≡ b → sort_at (pick b n (pick (eqb e item) 1 2)) ≡ pick b (sort_at n) (some (ltb item e))
    by true h = unfold pick in refl
    by false h = unfold pick in at true (eqb e item) h refl

-- What is open behind a tag of a kind.
module _ (o : OpenElements) (e kind word items : ℕ) where
  pub moved_self : items ≡ sort_number e o.items → kind ≡ 1 → record { level = o.level; words = o.words; items = items } ≡ moved_by o e kind word
  unfolding moved_by pick
  moved_self i e = rw (i, e)

  pub moved_opened : items ≡ sort_number e o.items → kind ≡ 0 → record { level = o.level + 1; words = set o.words o.level word; items = items } ≡ moved_by o e kind word
  unfolding moved_by pick
  moved_opened i e = rw (i, e)

  pub moved_left : (kind ≡ 1 → ⊥) → (kind ≡ 0 → ⊥) → record { level = o.level - 1; words = o.words; items = o.items } ≡ moved_by o e kind word
  unfolding moved_by pick
  moved_left e f = rw (ne_eqb kind 0 f, ne_eqb kind 1 e)
