-- The names that a tag adds to those that are held.
use mathlib.Core.Path.{◌≡◌, refl, sym, ap, ◌∙◌}
use mathlib.Core.Bool.{Bool, true, false, ◌||◌}
use mathlib.Core.List.{List, [], ◌∷◌, ◌++◌, append_assoc}
use Prim.Native.Nat.{ℕ, suc, ◌+◌, ◌-◌, ◌≤◌, ◌<◌, min}
use native.Mathlib.Decide.{ℕ_discrete}
use native.Mathlib.Numerals.{add-one}
use native.Mathlib.Omega.{arith}
use lib.Dec.{eqb, leb}
use lib.ListN.{length, take, drop, get_or, set, length-take, length-drop, length-set}
use lib.Seq.{take-take, take_all, take-suc-set, take-set-le, length-take-le}
use mir.Syntax.{w8, w64}
use mir.Val.{Fits}
use borrow.Author.Tests.{eq-eqb, ne_eqb, leb-true, leb-false}
use Rattle.names.specs.Key.{Name, names_used, own_names}
use Rattle.names.specs.code.HeldKey.{slotted}
use Rattle.names.specs.Name.{name_most}
use Rattle.names.specs.Pick.{pick}
use Rattle.names.proofs.KeyDepth.{used_most, used_one, used_two}
use Rattle.names.proofs.KeyHeld.{held-length, held-slotted, slotted-length}
use Rattle.reader.specs.code.EntityTags.{eight_in, own_slot, tag_depth, own_at, own_by, own_of, OwnStretches, Short, names_filled, lengths_filled, own_name, repeat_name, Filled}
use Rattle.reader.specs.code.OpenElements.{frames_in}
use Rattle.reader.specs.code.Places.{part}
use Rattle.reader.specs.code.Answered.{Attributed}
use Rattle.reader.specs.declared.cursor.TagRead.{TagRead}
use Rattle.reader.specs.declared.entity.Own.{Own}
use Rattle.reader.proofs.OpenElementLaws.{frames-kept}

slot-few : (level : ℕ) → own_slot level ≤ 8
unfolding own_slot pick
slot-few level = elim (ℕ_discrete level 0) [ yes e ↦ rw e (omega arith) | no e ↦ rw (ne_eqb level 0 e) (used_most (level - 1)) ]

pub own_made : (depth slot a b c d x y : ℕ) → x ≡ a + min (b - a) name_most → y ≡ c + min (d - c) name_most
    → record { slot = slot; oid = a; oid_end = x; repeat = c; repeat_end = y; depth = depth } ≡ own_at depth slot a b c d
own_made depth slot a b c d x y e f = rw (e, f)

-- What the code answers for a tag.
module _ (t : TagRead) (level depth slot : ℕ) (r : Own) (deep : depth ≡ tag_depth t.kind level) (at : slot ≡ own_slot level) where
  abbrev a : ℕ
  a = get_or t.found.starts 0 0

  abbrev b : ℕ
  b = get_or t.found.ends 0 0

  abbrev c : ℕ
  c = get_or t.found.starts 1 0

  abbrev d : ℕ
  d = get_or t.found.ends 1 0

  pub own_closing : r ≡ own_at depth slot 0 0 0 0 → t.kind ≡ 2 → r ≡ own_of t level
  unfolding own_of pick
  own_closing e k = rw (eq-eqb t.kind 2 k, ← at, ← deep) e

  pub own_subject : r ≡ own_at depth slot a b 0 0 → (t.kind ≡ 2 → ⊥) → level ≡ 1 → r ≡ own_of t level
  unfolding own_of pick
  own_subject e k l = rw (ne_eqb t.kind 2 k, eq-eqb level 1 l, ← at, ← deep) e

  pub own_item : r ≡ own_at depth slot a b 0 0 → (t.kind ≡ 2 → ⊥) → (level ≡ 1 → ⊥) → level ≡ 5 → r ≡ own_of t level
  unfolding own_of pick
  own_item e k n l = rw (ne_eqb t.kind 2 k, ne_eqb level 1 n, eq-eqb level 5 l, ← at, ← deep) e

  pub own_alone : r ≡ own_at depth slot a b 0 0 → (t.kind ≡ 2 → ⊥) → (level ≡ 1 → ⊥) → (level ≡ 5 → ⊥) → c ≡ 0 → r ≡ own_of t level
  unfolding own_of pick
  own_alone e k n l z = rw (ne_eqb t.kind 2 k, ne_eqb level 1 n, ne_eqb level 5 l, eq-eqb c 0 z, ← at, ← deep) e

  pub own_both : r ≡ own_at depth slot a b c d → (t.kind ≡ 2 → ⊥) → (level ≡ 1 → ⊥) → (level ≡ 5 → ⊥) → (c ≡ 0 → ⊥) → r ≡ own_of t level
  unfolding own_of pick
  own_both e k n l z = rw (ne_eqb t.kind 2 k, ne_eqb level 1 n, ne_eqb level 5 l, ne_eqb c 0 z, ← at, ← deep) e

-- They fit their slots.
pick-any : (P : Own → Type 0) (b : Bool) (x y : Own) → P x → P y → P (pick b x y)
unfolding pick
pick-any P true x y h k = h
pick-any P false x y h k = k

short-at : (s : List ℕ) (depth slot a b c d : ℕ) → slot ≤ 8 → a ≤ b → b ≤ length s → c ≤ d → d ≤ length s → Short s (own_at depth slot a b c d)
short-at s depth slot a b c d h i j k l =
    record {
      slight = record { slot = h; oid-order = omega arith; oid-few = omega arith; repeat_order = omega arith; repeat_few = omega arith };
      oid-inside = omega arith;
      repeat_inside = omega arith;
    }

-- Those of a closing tag, and of an opening one.
pub attributed-ordered : (s : List ℕ) (t : TagRead) → Attributed s t → OwnStretches t
attributed-ordered s t a = record { first = a.holds.order 0 (omega arith); second = a.holds.order 1 (omega arith) }

module _ (s : List ℕ) (t : TagRead) (level : ℕ) where
  none_here : Short s (own_at (tag_depth t.kind level) (own_slot level) 0 0 0 0)
  none_here = short-at s _ (own_slot level) 0 0 0 0 (slot-few level) (omega arith) (omega arith) (omega arith) (omega arith)

  pub closing-short : t.kind ≡ 2 → Short s (own_of t level)
  unfolding own_of pick
  closing-short e = rw (eq-eqb t.kind 2 e) none_here

  pub opening-short : Attributed s t → Short s (own_of t level)
  unfolding own_of
  opening-short a =
      let o = attributed-ordered s t a in
      let i = a.holds.inside 0 (omega arith) in
      let j = a.holds.inside 1 (omega arith) in
      let one = short-at s (tag_depth t.kind level) (own_slot level) _ _ 0 0 (slot-few level) o.first i (omega arith) (omega arith) in
      let two = short-at s (tag_depth t.kind level) (own_slot level) _ _ _ _ (slot-few level) o.first i o.second j in
      pick-any (Short s) _ _ _ none_here (pick-any (Short s) _ _ _ one (pick-any (Short s) _ _ _ one (pick-any (Short s) _ _ _ one two)))

-- A name, its length and the slot behind its own, as the code asks for them.
pub part-few : (s : List ℕ) (a b : ℕ) → b - a ≤ name_most → length (part s a b) ≤ name_most
part-few s a b h = rw length-take (omega arith)

pub name-fits : (n : ℕ) → n ≤ name_most → Fits w8 n
name-fits n h = record { fits = omega arith }

pub slot-fits : (n : ℕ) → n ≤ 8 → Fits w64 (n + 1)
slot-fits n h = record { fits = omega arith }

-- The code's two stores for each.
pub lengths_put : (lens x y : List ℕ) (o : Own) → x ≡ set lens o.slot (o.oid_end - o.oid) → y ≡ set x (o.slot + 1) (o.repeat_end - o.repeat) → y ≡ lengths_filled lens o
unfolding lengths_filled
lengths_put lens x y o e f = f ∙ rw e

pub names-put : (names x y s : List ℕ) (o : Own) → x ≡ slotted names o.slot (part s o.oid o.oid_end) → y ≡ slotted x (o.slot + 1) (part s o.repeat o.repeat_end)
    → y ≡ names_filled names s o
unfolding names_filled
names-put names x y s o e f = f ∙ rw e

-- Put into their slots, they are held there.
part-size : (s : List ℕ) (a b : ℕ) → a ≤ b → b ≤ length s → length (part s a b) ≡ b - a
part-size s a b h k = length-take-le (b - a) (drop a s) (rw length-drop (omega arith))

module _ (names lens s : List ℕ) (o : Own) (slots : length names ≡ 128) (size : length lens ≡ 8) (h : Short s o) where
  abbrev oid : Name
  oid = part s o.oid o.oid_end

  abbrev repeat : Name
  repeat = part s o.repeat o.repeat_end

  oid-size : length oid ≡ o.oid_end - o.oid
  oid-size = part-size s o.oid o.oid_end h.slight.oid-order h.oid-inside

  repeat_size : length repeat ≡ o.repeat_end - o.repeat
  repeat_size = part-size s o.repeat o.repeat_end h.slight.repeat_order h.repeat_inside

  pub names-size : length (names_filled names s o) ≡ 128
  unfolding names_filled
  names-size =
      let f = h.slight in
      slotted-length _ (o.slot + 1) repeat (slotted-length names o.slot oid slots (rw oid-size f.oid-few)) (rw repeat_size f.repeat_few)

  pub lengths_size : length (lengths_filled lens o) ≡ 8
  unfolding lengths_filled
  lengths_size = rw (length-set, length-set) size

  pub filled-held : eight_in (names_filled names s o) (lengths_filled lens o) ≡ set (set (eight_in names lens) o.slot oid) (o.slot + 1) repeat
  unfolding names_filled lengths_filled
  filled-held =
      let f = h.slight in
      let first = held-slotted names lens o.slot oid slots size (rw oid-size f.oid-few) in
      let second = held-slotted (slotted names o.slot oid) (set lens o.slot (length oid)) (o.slot + 1) repeat
      (slotted-length names o.slot oid slots (rw oid-size f.oid-few)) (rw length-set size) (rw repeat_size f.repeat_few) in
      ap (λ (n : ℕ). eight_in (slotted (slotted names o.slot oid) (o.slot + 1) repeat) (set (set lens o.slot n) (o.slot + 1) (o.repeat_end - o.repeat))) (sym oid-size)
      ∙ ap (λ (n : ℕ). eight_in (slotted (slotted names o.slot oid) (o.slot + 1) repeat) (set (set lens o.slot (length oid)) (o.slot + 1) n)) (sym repeat_size)
      ∙ second
      ∙ rw first

-- Names put behind those of the elements that are open leave these as they were.
module _ (k : List Name) (level slot : ℕ) (n r : Name) (at : slot ≡ own_slot level) where
  kept-front : take (names_used (level - 1)) (set (set k slot n) (slot + 1) r) ≡ take (names_used (level - 1)) k
  unfolding own_slot pick
  kept-front =
      let low : names_used (level - 1) ≤ slot = elim (ℕ_discrete level 0) [
        | yes e ↦ rw (at, e) (used_most (0 - 1))
        | no e ↦ let z : slot ≡ names_used (level - 1) = at ∙ rw (ne_eqb level 0 e) in omega arith
      ] in
      take-set-le (names_used (level - 1)) (set k slot n) (slot + 1) r (omega arith) ∙ take-set-le (names_used (level - 1)) k slot n low

  pub frames-filled : (ws : List ℕ) → level ≤ 6 → frames_in level (set (set k slot n) (slot + 1) r) ws ≡ frames_in level k ws
  frames-filled ws h = frames-kept level (set (set k slot n) (slot + 1) r) k ws h kept-front

  module _ (low : 1 ≤ level) (high : level ≤ 5) (size : length k ≡ 8) where
    slot_is : slot ≡ names_used (level - 1)
    unfolding own_slot pick
    slot_is = at ∙ rw (ne_eqb level 0 (λ e. omega arith))

    up : level - 1 + 1 ≡ level
    up = omega arith

    -- One name at depths 1 and 5, else two.
    one_own : (eqb level 1 || eqb level 5) ≡ true
        → take (names_used level) (set (set k slot n) (slot + 1) r) ≡ take (names_used (level - 1)) k ++ (n ∷ [])
    one_own e =
        let u : names_used level ≡ slot + 1 = ap names_used (sym up) ∙ used_one (level - 1) (omega arith) (rw up e) ∙ rw slot_is in
        let m = used_most level in
        rw (u, take-set-le (slot + 1) (set k slot n) (slot + 1) r (omega arith), add-one, ← slot_is) (take-suc-set k slot n (omega arith))

    two_own : (eqb level 1 || eqb level 5) ≡ false
        → take (names_used level) (set (set k slot n) (slot + 1) r) ≡ take (names_used (level - 1)) k ++ (n ∷ r ∷ [])
    two_own e =
        let v : names_used level ≡ names_used (level - 1) + 2 = ap names_used (sym up) ∙ used_two (level - 1) (omega arith) (rw up e) in
        let u : names_used level ≡ suc (slot + 1) = let z = slot_is in omega arith in
        let m = used_most level in
        let w : take (slot + 1) (set k slot n) ≡ take slot k ++ (n ∷ []) = rw add-one (take-suc-set k slot n (omega arith)) in
        rw (u, take-suc-set (set k slot n) (slot + 1) r (rw length-set (omega arith)), w, ← slot_is, append_assoc)

    pub own_behind : take (names_used level) (set (set k slot n) (slot + 1) r) ≡ take (names_used (level - 1)) (set (set k slot n) (slot + 1) r) ++ own_names level n r
    unfolding own_names pick
    own_behind = rw kept-front (go (eqb level 1 || eqb level 5) refl)
      where
        go : (b : Bool) → (eqb level 1 || eqb level 5) ≡ b
            → take (names_used level) (set (set k slot n) (slot + 1) r) ≡ take (names_used (level - 1)) k ++ pick b (n ∷ []) (n ∷ r ∷ [])
        go true e = one_own e
        go false e = two_own e

-- A stretch cut to what a slot holds.
part_cut : (s : List ℕ) (a b : ℕ) → part s a (a + min (b - a) name_most) ≡ take name_most (part s a b)
part_cut s a b = let z : a + min (b - a) name_most - a ≡ min (b - a) name_most = omega arith in rw z (go (leb (b - a) name_most) refl)
  where
    go : (t : Bool) → leb (b - a) name_most ≡ t → take (min (b - a) name_most) (drop a s) ≡ take name_most (take (b - a) (drop a s))
    go true e =
        let h : b - a ≤ name_most = leb-true _ _ e in
        let q : min (b - a) name_most ≡ b - a = omega arith in
        rw q (sym (take_all name_most (take (b - a) (drop a s)) (rw length-take (omega arith))))
    go false e =
        let h : name_most < b - a = leb-false _ _ e in
        let q : min (b - a) name_most ≡ name_most = omega arith in
        rw q (sym (take-take name_most (b - a) (drop a s) (omega arith)))

-- The names of a tag, as they are put into their slots.
module _ (s : List ℕ) (t : TagRead) (level : ℕ) where
  abbrev own : Own
  own = own_of t level

  pub own_place : own.slot ≡ own_slot level
  unfolding own_of
  own_place =
      let P : Own → Type 0 = λ o. o.slot ≡ own_slot level in
      pick-any P _ _ _ refl (pick-any P _ _ _ refl (pick-any P _ _ _ refl (pick-any P _ _ _ refl refl)))

  pub own_depth : own.depth ≡ tag_depth t.kind level
  unfolding own_of
  own_depth =
      let P : Own → Type 0 = λ o. o.depth ≡ tag_depth t.kind level in
      pick-any P _ _ _ refl (pick-any P _ _ _ refl (pick-any P _ _ _ refl (pick-any P _ _ _ refl refl)))

  module _ (opens : t.kind ≡ 2 → ⊥) where
    own_by_lem : own ≡ own_by level (tag_depth t.kind level) (own_slot level) (get_or t.found.starts 0 0) (get_or t.found.ends 0 0) (get_or t.found.starts 1 0) (get_or t.found.ends 1 0)
    unfolding own_of pick
    own_by_lem = rw (ne_eqb t.kind 2 opens)

    oid-is : part s own.oid own.oid_end ≡ own_name s t
    oid-is =
        let P : Own → Type 0 = λ o. part s o.oid o.oid_end ≡ own_name s t in
        let cut : part s (get_or t.found.starts 0 0) (get_or t.found.starts 0 0 + min (get_or t.found.ends 0 0 - get_or t.found.starts 0 0) name_most) ≡ own_name s t =
        part_cut s (get_or t.found.starts 0 0) (get_or t.found.ends 0 0) in
        rw own_by_lem (pick-any P _ _ _ cut (pick-any P _ _ _ cut (pick-any P _ _ _ cut cut)))

    repeat_is : (level ≡ 1 → ⊥) → (level ≡ 5 → ⊥) → part s own.repeat own.repeat_end ≡ repeat_name s t
    unfolding repeat_name
    repeat_is n m = rw (own_by_lem, ne_eqb level 1 n, ne_eqb level 5 m) (go (eqb (get_or t.found.starts 1 0) 0))
      where
        go : (b : Bool)
            → part s (pick false (own_at (tag_depth t.kind level) (own_slot level) (get_or t.found.starts 0 0) (get_or t.found.ends 0 0) 0 0) (pick false (own_at (tag_depth t.kind level) (own_slot level) (get_or t.found.starts 0 0) (get_or t.found.ends 0 0) 0 0) (pick b (own_at (tag_depth t.kind level) (own_slot level) (get_or t.found.starts 0 0) (get_or t.found.ends 0 0) 0 0) (own_at (tag_depth t.kind level) (own_slot level) (get_or t.found.starts 0 0) (get_or t.found.ends 0 0) (get_or t.found.starts 1 0) (get_or t.found.ends 1 0))))).repeat (pick false (own_at (tag_depth t.kind level) (own_slot level) (get_or t.found.starts 0 0) (get_or t.found.ends 0 0) 0 0) (pick false (own_at (tag_depth t.kind level) (own_slot level) (get_or t.found.starts 0 0) (get_or t.found.ends 0 0) 0 0) (pick b (own_at (tag_depth t.kind level) (own_slot level) (get_or t.found.starts 0 0) (get_or t.found.ends 0 0) 0 0) (own_at (tag_depth t.kind level) (own_slot level) (get_or t.found.starts 0 0) (get_or t.found.ends 0 0) (get_or t.found.starts 1 0) (get_or t.found.ends 1 0))))).repeat_end
            ≡ pick b [] (take name_most (part s (get_or t.found.starts 1 0) (get_or t.found.ends 1 0)))
        go true = unfold pick in refl
        go false = unfold pick in (part_cut s (get_or t.found.starts 1 0) (get_or t.found.ends 1 0))

    own_names_lem : own_names level (part s own.oid own.oid_end) (part s own.repeat own.repeat_end) ≡ own_names level (own_name s t) (repeat_name s t)
    unfolding own_names pick
    own_names_lem = rw oid-is (elim (ℕ_discrete level 1) [
      | yes e ↦ rw (eq-eqb level 1 e)
      | no n ↦ elim (ℕ_discrete level 5) [
        | yes e ↦ rw (ne_eqb level 1 n, eq-eqb level 5 e)
        | no m ↦ rw (ne_eqb level 1 n, ne_eqb level 5 m, repeat_is n m)
      ]
    ])

-- So behind the filling of their slots the names of the entity that a tag names are held.
module _ (names lens s : List ℕ) (t : TagRead) (level : ℕ) (slots : length names ≡ 128) (size : length lens ≡ 8) (o : Own) (short : Short s o)
    (x y : List ℕ) (ex : x ≡ names_filled names s o) (ey : y ≡ lengths_filled lens o) where
  pub filled-names-size : length x ≡ 128
  filled-names-size = rw ex (names-size names lens s o slots size short)

  pub filled_lens_size : length y ≡ 8
  filled_lens_size = rw ey (lengths_size names lens s o slots size short)

  held_now : eight_in x y ≡ set (set (eight_in names lens) o.slot (part s o.oid o.oid_end)) (o.slot + 1) (part s o.repeat o.repeat_end)
  held_now = rw (ex, ey) (filled-held names lens s o slots size short)

  module _ (is : o ≡ own_of t level) where
    place : o.slot ≡ own_slot level
    place = rw is (own_place s t level)

    own_is : (t.kind ≡ 2 → ⊥) → own_names level (part s o.oid o.oid_end) (part s o.repeat o.repeat_end) ≡ own_names level (own_name s t) (repeat_name s t)
    own_is n = rw is (own_names_lem s t level n)

    pub filled_tag : (kind : ℕ) → (kind < 2 → t.kind < 2) → Filled s t kind level (eight_in x y)
    filled_tag kind opens k low high =
        rw (held_now, ← own_is (λ z. let y = opens k in omega arith)) (own_behind (eight_in names lens) level o.slot _ _ place low high (held-length 8 0 names lens))

    -- and the open elements are as before.
    pub filled-frames : (ws : List ℕ) → level ≤ 6 → frames_in level (eight_in x y) ws ≡ frames_in level (eight_in names lens) ws
    filled-frames ws f = rw held_now (frames-filled (eight_in names lens) level o.slot _ _ place ws f)
