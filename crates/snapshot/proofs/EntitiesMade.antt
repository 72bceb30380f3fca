-- Judging the tags of a snapshot's entities makes them, one after another.
use mathlib.Core.Path.{◌≡◌, refl, sym, ◌∙◌, ap}
use mathlib.Core.Bool.{Bool, true, false, ◌||◌}
use mathlib.Core.List.{List, [], ◌∷◌, ◌++◌, append-nil}
use mathlib.Core.Option.{Option, none, some}
use Prim.Native.Nat.{ℕ, zero, suc, ◌+◌, ◌-◌, ◌≤◌, min}
use native.Mathlib.Nat.{suc-add, zero-add}
use native.Mathlib.Omega.{arith}
use lib.Dec.{eqb, ltb}
use borrow.Author.Tests.{ltb-false}
use lib.ListN.{length, take, drop, get_or, take-append-drop}
use lib.Seq.{take-take, take_all, append_snoc}
use Rattle.names.specs.Key.{Key, depth_of, names_used}
use Rattle.names.specs.Name.{is_value}
use Rattle.names.specs.Pick.{pick}
use Rattle.names.proofs.Ordered.{same_refl}
use Rattle.store.specs.Answer.{accepted, ◌>>=◌, ◌>>◌, unless}
use Rattle.store.specs.Change.{make, Change, change, Value, is_null, live}
use Rattle.store.specs.Machine.{Machine, changes_of, within_limits}
use Rattle.store.specs.Table.{Entity}
use Rattle.store.specs.Word.{insert}
use Rattle.reader.specs.Tag.{read, Tag, closes}
use Rattle.reader.specs.Element.{element_at, item, alike_items, sort_behind}
use Rattle.reader.specs.Tell.{Place, ◌▸◌, opening, place_behind, tell_closing, tell}
use Rattle.reader.specs.Judge.{Header, Frame, frame, clinical_frame, shown, progress, outer_key, closing, leaving, act, Next, more, run, words_of, place_of, judge}
use Rattle.reader.proofs.Invariant.{words-length}
use Rattle.snapshot.specs.Snapshot.{entity_attributes, open_tag, close_tags, entity_tags}
use Rattle.snapshot.proofs.Chained.{Chained, no_more, next, all_chained}
use Rattle.snapshot.proofs.Facts.{TableFacts}
use Rattle.snapshot.proofs.KeyLevels.{BelowDepth, names-at-most}
use Rattle.snapshot.proofs.Insert.{Reads, reads, insert_open}
use Rattle.snapshot.proofs.Limits.{one_more-within}
use Rattle.snapshot.proofs.Reread.{judge_all, judged_one}
use Rattle.store.proofs.Tables.Size.{makes_of, makes_of_append}

-- The open elements below ODM down to depth d, along a key: ClinicalData, and the entities that the key begins with.
unfoldable pub chain : ℕ → Key → List Frame
chain zero k = clinical_frame ∷ []
chain (suc d) k = frame (take (names_used (suc d)) k) (some insert) false ∷ chain d k

-- So many are open, with these changes and this sort of items.
abbrev pub here : ℕ → Key → List Change → Option Bool → Next
here d k cs i = more (progress (chain d k) cs (shown i))

-- The sort of the items behind entities: untyped ones, or none.
unfoldable pub sort_after : Option Bool → List Entity → Option Bool
sort_after i [] = i
sort_after i (e ∷ es) = sort_after (sort_behind (suc (suc (depth_of e.key - 1))) i) es

still_untyped : (e : ℕ) (i : Option Bool) → e ≤ item → alike_items i false ≡ true → alike_items (sort_behind e i) false ≡ true
unfolding sort_behind
still_untyped e i h u = by (ltb e item) refl
  where
    by : (b : Bool) → ltb e item ≡ b → alike_items (pick b i (some (ltb item e))) false ≡ true
    by true c = unfold pick in u
    by false c = let z : e ≡ item = (let l = ltb-false e item c in omega arith) in rw z (unfold pick alike_items in refl)

chain_length : (d : ℕ) (k : Key) → length (chain d k) ≡ suc d
unfolding chain
chain_length zero k = refl
chain_length (suc d) k = ap suc (chain_length d k)

inner-key : (j : ℕ) (k : Key) → outer_key (chain j k) ≡ take (names_used j) k
unfolding outer_key chain names_used pick
inner-key zero k = refl
inner-key (suc j) k = refl

-- Two keys that agree down to a depth have the same open elements there.
same_chain : (j : ℕ) (a b : Key) → j ≤ 5 → take (names_used j) a ≡ take (names_used j) b → chain j a ≡ chain j b
unfolding chain
same_chain zero a b l e = refl
same_chain (suc j) a b l e =
    let g : names_used j ≤ names_used (suc j) = names-at-most j (omega arith) in
    let above : take (names_used j) a ≡ take (names_used j) b =
    sym (take-take (names_used j) (names_used (suc j)) a g) ∙ ap (take (names_used j)) e ∙ take-take (names_used j) (names_used (suc j)) b g in
    rw (e, same_chain j a b (omega arith) above)

-- What is open behind the tag of an entity whose parent was open; of an item nothing stays open.
after_open : (m : Machine) (j : ℕ) (last k : Key) (cs : List Change) (i : Option Bool) (x : Place) (s : List ℕ) → j ≤ 4 → length k ≡ names_used (suc j) → take (names_used j) last ≡ take (names_used j) k
    → run m (progress (frame k (some insert) false ∷ chain j last) cs (shown i)) (opening (eqb (suc j) 5) (some insert) x s) ≡ accepted (read (here (min (suc j) 4) k cs i) s)
unfolding opening run act leaving closing chain ◌>>=◌
after_open m j last k cs i x s b n e = go j b (same_chain j last k (omega arith) e) (sym (take_all (names_used (suc j)) k (omega arith)))
  where
    go : (j : ℕ) → j ≤ 4 → chain j last ≡ chain j k → k ≡ take (names_used (suc j)) k
        → run m (progress (frame k (some insert) false ∷ chain j last) cs (shown i)) (opening (eqb (suc j) 5) (some insert) x s) ≡ accepted (read (here (min (suc j) 4) k cs i) s)
    go zero b c t = cc
    go (suc zero) b c t = cc
    go (suc (suc zero)) b c t = cc
    go (suc (suc (suc zero))) b c t = cc
    go (suc (suc (suc (suc zero)))) b c t = cc
    go (suc (suc (suc (suc (suc j))))) b c t = absurd (omega arith)

-- Closing tags change nothing.
closed_one : (m : Machine) (h : Header) (d : ℕ) (k : Key) (cs : List Change) (i : Option Bool) (s : List ℕ)
    → judge m h (progress (chain (suc d) k) cs (shown i)) (closes (element_at (suc (suc d))).name) s ≡ accepted (read (here d k cs i) s)
unfolding judge tell tell_closing chain words_of ◌▸◌ run act leaving closing unless ◌>>=◌ ◌>>◌
closed_one m h d k cs i s =
    let many : length (words_of (chain d k)) ≡ suc d = words-length (chain d k) ∙ chain_length d k in
    rw (many, same_refl (element_at (suc (suc d))).name)

module _ (z : List ℕ) (m : Machine) (h : Header) (k : Key) (cs : List Change) (i : Option Bool) where
  closed_down : (n d : ℕ) (ts : List Tag) → judge_all z m h (here (n + d) k cs i) (close_tags n d ts) ≡ judge_all z m h (here d k cs i) ts
  unfolding close_tags
  closed_down zero d ts = rw zero-add
  closed_down (suc n) d ts =
      rw suc-add
      (judged_one z m h (progress (chain (suc (n + d)) k) cs (shown i)) (here (n + d) k cs i) (closes (element_at (suc (suc (n + d)))).name) (close_tags n d ts) (closed_one m h (n + d) k cs i _)
      ∙ closed_down n d ts)

  -- Down to depth j, from depth o.
  closed_to : (o j : ℕ) (ts : List Tag) → j ≤ o → judge_all z m h (here o k cs i) (close_tags (o - j) j ts) ≡ judge_all z m h (here j k cs i) ts
  closed_to o j ts b = let e : o - j + j ≡ o = omega arith in rw e at (closed_down (o - j) j ts)

-- The opening tag of an entity whose parent is open, in a store without changes.
module _ (m : Machine) (no_change : changes_of m.files ≡ []) (h : Header) (snap : h.snapshot ≡ true) where
  opened : (j : ℕ) (last k : Key) (v : Value) (cs : List Change) (i : Option Bool) (s : List ℕ) → BelowDepth j k → is_value v ≡ true → (eqb (suc j) 5 || is_null v) ≡ true
      → take (names_used j) last ≡ take (names_used j) k → live cs k ≡ false → within_limits (cs ++ change make k v ∷ []) ≡ true → alike_items i false ≡ true
      → judge m h (progress (chain j last) cs (shown i)) (open_tag (suc j) (drop (names_used j) k) v) s
      ≡ accepted (read (here (min (suc j) 4) k (cs ++ change make k v ∷ []) (sort_behind (suc (suc j)) i)) s)
  unfolding open_tag
  opened j last k v cs i s t a b e fresh fitting u =
      let own = drop (names_used j) k in
      let key : outer_key (chain j last) ++ own ≡ k = rw (inner-key j last, e) (take-append-drop (names_used j) k) in
      let r : Reads i (suc j) (entity_attributes (suc j) own v) own v = rw t.own (reads i j (get_or own 0 []) (get_or own 1 []) v t.below t.oid t.rep a b u) in
      insert_open m h snap (progress (chain j last) cs (shown i)) j (chain_length j last) (entity_attributes (suc j) own v) (eqb (suc j) 5) own v s r (rw (no_change, key) fresh) (rw (no_change, key) fitting)
      ∙ rw key (after_open m j last k (cs ++ change make k v ∷ []) (sort_behind (suc (suc j)) i) (place_behind (suc (suc j)) (place_of (progress (chain j last) cs (shown i)))) s t.below t.count e)

  -- The tags of all entities of a table: those in xs are made, ys are to come.
  module _ (z : List ℕ) (full : List Entity) (facts : TableFacts full) where
    made : (ys xs : List Entity) (o : ℕ) (last : Key) (i : Option Bool) → full ≡ xs ++ ys → Chained o last ys → alike_items i false ≡ true
        → judge_all z m h (here o last (makes_of xs) i) (entity_tags o ys) ≡ accepted (here 0 [] (makes_of full) (sort_after i ys))
    unfolding entity_tags makes_of chain sort_after
    made [] xs o last i q no_more u =
        let y : o - 0 ≡ o = omega arith in
        rw (q, append-nil) ((rw y at (closed_to z m h last (makes_of xs) i o 0 [] (omega arith))) ∙ (unfold judge_all in refl))
    made (e ∷ ys) xs o last i q (next f c) u =
        let k = e.key in
        let j = depth_of k - 1 in
        let few = f.key.below in
        closed_to z m h last (makes_of xs) i o j (open_tag (suc j) (drop (names_used j) k) e.value ∷ entity_tags (min (suc j) 4) ys) f.deep
        ∙ judged_one z m h (progress (chain j last) (makes_of xs) (shown i)) (here (min (suc j) 4) k (makes_of xs ++ change make k e.value ∷ []) (sort_behind (suc (suc j)) i))
        (open_tag (suc j) (drop (names_used j) k) e.value) (entity_tags (min (suc j) 4) ys)
        (opened j last k e.value (makes_of xs) i _ f.key f.value f.item f.along (facts.new xs e ys q) (one_more-within full facts xs e ys q) u)
        ∙ (rw (makes_of_append xs (e ∷ [])) at (made ys (xs ++ e ∷ []) (min (suc j) 4) k (sort_behind (suc (suc j)) i) (q ∙ sym (append_snoc xs e ys)) c
        (still_untyped (suc (suc j)) i (omega arith) u)))

    pub all_made : judge_all z m h (here 0 [] [] none) (entity_tags 0 full) ≡ accepted (here 0 [] (makes_of full) (sort_after none full))
    unfolding makes_of
    all_made = made full [] 0 [] none refl (all_chained full facts) (unfold alike_items in refl)
