-- Where the packed names and the value of a row stand, name after name.
use mathlib.Core.Path.{◌≡◌, refl, sym, ◌∙◌, ap}
use mathlib.Core.Bool.{true}
use mathlib.Core.List.{List, [], ◌∷◌, ◌++◌, append_assoc}
use Prim.Native.Nat.{ℕ, suc, ◌+◌, ◌-◌, ◌≤◌, ◌<◌}
use native.Mathlib.Omega.{arith}
use lib.Dec.{lit<, lit≤}
use lib.ListN.{length, take, drop, get_or, length-append, length-drop}
use lib.Seq.{length-take-le, take-take, take-append_seam, drop-append_seam, drop-drop}
use Rattle.names.specs.Key.{Key, Name, names_used, is_repeat, packed}
use Rattle.names.specs.Name.{is_name_of, is_name}
use Rattle.names.specs.Pick.{pick}
use Rattle.names.specs.Text.{escape}
use Rattle.names.proofs.Escape.{escape-name}
use Rattle.names.proofs.KeyWalk.{names-length}
use Rattle.names.proofs.Tests.{and_l, and_r}
use Rattle.names.proofs.Walk.{drop_here, drop-at-element, drop_past, drop-take}
use Rattle.store.specs.Change.{is_change, change_bytes}
use Rattle.store.specs.Image.{bytes_size}
use Rattle.store.specs.code.Layout.{row_bytes, row_fits}
use Rattle.store.specs.code.Rows.{packed_at, depth_at, end_at, start_at, key_start, key_at, value_at}
use Rattle.store.proofs.Layouts.EntryKeys.{by_depth}
use Rattle.store.proofs.Layouts.RowFits.{RowFits, row_fits_lem, row-bytes, row-depth}
use Rattle.snapshot.specs.code.Writing.{NamesAt, OwnAt, RepeatAt, own_names_of}
use Rattle.snapshot.proofs.KeyLevels.{BelowDepth, fits, deeper_longer}

-- A packed name with something behind it, between two places.
record Split (bs : List ℕ) (p to : ℕ) (n t : List ℕ) : Type 0 where
  pub long : get_or bs p 0 ≡ length n
  pub ends : p + 1 + length n ≤ to
  pub name : take (length n) (drop (p + 1) bs) ≡ n
  pub rest : take (to - (p + 1 + length n)) (drop (p + 1 + length n) bs) ≡ t

split : (bs : List ℕ) (p to : ℕ) (n t : List ℕ) → p ≤ to → to ≤ length bs → take (to - p) (drop p bs) ≡ length n ∷ (n ++ t) → Split bs p to n t
split bs p to n t low high e =
    let fit : to - p ≤ length (drop p bs) = rw length-drop (omega arith) in
    let whole : to - p ≡ suc (length n + length t) = sym (length-take-le (to - p) (drop p bs) fit) ∙ ap length e ∙ ap suc (length-append n t) in
    let w : ℕ = length n + length t in
    let l : List ℕ = drop (p + 1) bs in
    let here : drop p bs ≡ get_or bs p 0 ∷ l = drop_here bs p (omega arith) in
    let cells : get_or bs p 0 ∷ take w l ≡ length n ∷ (n ++ t) = rw (whole, here) at e in
    let first : get_or bs p 0 ≡ length n = cc in
    let others : take w l ≡ n ++ t = cc in
    let most : length n ≤ w = omega arith in
    let left : w - length n ≡ to - (p + 1 + length n) = omega arith in
    record {
      long = first;
      ends = omega arith;
      name = sym (take-take (length n) w l most) ∙ ap (take (length n)) others ∙ take-append_seam n t;
      rest =
          rw (← left, ← drop-drop (length n) (p + 1) bs)
          (sym (drop-take (length n) w l) ∙ ap (drop (length n)) others ∙ drop-append_seam n t);
    }

module _ (ns bs : List ℕ) (r : ℕ) where
  count : length (key_at ns bs r) ≡ names_used (depth_at ns r)
  unfolding key_at
  count = names-length (names_used (depth_at ns r)) (drop (packed_at + key_start ns r) bs)

  pub names-first : (p : ℕ) → drop p bs ≡ drop (packed_at + key_start ns r) bs → p ≤ length bs → length bs ≡ bytes_size → row_fits ns bs r ≡ true → NamesAt ns bs r 0 p
  unfolding change_bytes row_bytes key_start
  names-first p e high size f =
      let t : RowFits ns bs r = row_fits_lem ns bs r f in
      let o = t.order in
      let h = t.end-high in
      let w : packed_at + end_at ns r - (packed_at + start_at ns r) ≡ end_at ns r - start_at ns r = omega arith in
      let b : take (end_at ns r - start_at ns r) (drop (packed_at + start_at ns r) bs) ≡ packed (key_at ns bs r) ++ value_at ns bs r = sym (row-bytes ns bs size r t) in
      let at-start : NamesAt ns bs r 0 (packed_at + start_at ns r) = record { stands = rw w b; low = omega arith; high = omega arith } in
      let left : length bs - p ≡ length bs - (packed_at + start_at ns r) = sym (length-drop p bs) ∙ ap length e ∙ length-drop (packed_at + start_at ns r) bs in
      let place : p ≡ packed_at + start_at ns r = omega arith in
      rw place at-start

  -- Name i stands at p.
  module _ (i p : ℕ) (a : NamesAt ns bs r i p) (h : i < names_used (depth_at ns r)) where
    here : Split bs p (packed_at + end_at ns r) (get_or (drop i (key_at ns bs r)) 0 []) (packed (drop (i + 1) (key_at ns bs r)) ++ value_at ns bs r)
    unfolding packed
    here =
        let k : Key = key_at ns bs r in
        let c : drop i k ≡ get_or k i [] ∷ drop (i + 1) k = drop-at-element [] k i (rw count h) in
        let e : take (packed_at + end_at ns r - p) (drop p bs) ≡ length (get_or k i []) ∷ (get_or k i [] ++ (packed (drop (i + 1) k) ++ value_at ns bs r)) =
        a.stands ∙ rw (c, append_assoc) in
        rw c (split bs p (packed_at + end_at ns r) (get_or k i []) (packed (drop (i + 1) k) ++ value_at ns bs r) a.low a.high e)

    pub name-inside : p + 1 + get_or bs p 0 ≤ length bs
    name-inside = let x = here.long in let y = here.ends in let z = a.high in omega arith

    pub name-stands : take (get_or bs p 0) (drop (p + 1) bs) ≡ get_or (drop i (key_at ns bs r)) 0 []
    name-stands = rw here.long here.name

    pub name-passed : NamesAt ns bs r (i + 1) (p + 1 + get_or bs p 0)
    name-passed = rw here.long record { stands = here.rest; low = here.ends; high = a.high }

  -- The walk over the first k names.
  module _ (k i p : ℕ) (few : k ≤ names_used (depth_at ns r)) (a : NamesAt ns bs r i p) where
    pub walk_inside : i < k → p < length bs
    walk_inside h = let x = name-inside i p a (omega arith) in omega arith

    pub walk_on : (q : ℕ) → i < k → q ≡ p + 1 + get_or bs p 0 → NamesAt ns bs r (i + 1) q
    walk_on q h e = rw e (name-passed i p a (omega arith))

    pub walk_end : i ≤ k → k ≤ i → NamesAt ns bs r k p
    walk_end h g = let e : k ≡ i = omega arith in rw e a

pub ruleset walking = (names-first, walk_inside, walk_on, walk_end)

-- Names are written as they are.
plain-name : (n : Name) → is_name n ≡ true → escape n ≡ n
unfolding is_name is_name_of
plain-name n e = escape-name n (and_r _ _ (and_r _ _ e))

plain_repeat : (n : Name) → is_repeat n ≡ true → escape n ≡ n
unfolding is_repeat escape
plain_repeat [] e = refl
plain_repeat (c ∷ n) e = plain-name (c ∷ n) e

-- How many names the parent of a depth uses.
fewer : (d : ℕ) → 1 ≤ d → d ≤ 5 → names_used (d - 1) < names_used d
fewer d l h = deeper_longer (d - 1) d h (omega arith)

module _ (ns bs : List ℕ) (r : ℕ) (size : length bs ≡ bytes_size) (f : row_fits ns bs r ≡ true) where
  row : RowFits ns bs r
  row = row_fits_lem ns bs r f

  row-deep : 1 ≤ depth_at ns r
  row-deep = row.depth_low

  row-shallow : depth_at ns r ≤ 5
  row-shallow = row.depth-high

  pub depth_some : (d : ℕ) → d ≡ depth_at ns r → 1 ≤ d
  depth_some d e = rw e row-deep

  pub depth_most : (d : ℕ) → d ≡ depth_at ns r → d ≤ 5
  depth_most d e = rw e row-shallow

  key_fits : BelowDepth (depth_at ns r - 1) (key_at ns bs r)
  unfolding is_change
  key_fits = rw (← row-depth ns bs size r row) (fits (key_at ns bs r) (and_l _ _ row.formed))

  pub parent-few : (d k : ℕ) → d ≡ depth_at ns r → k ≡ names_used (d - 1) → k ≤ names_used (depth_at ns r)
  parent-few d k e f =
      let g : k ≡ names_used (depth_at ns r - 1) = f ∙ ap (λ x. names_used (x - 1)) e in
      let h = fewer (depth_at ns r) row-deep row-shallow in
      omega arith

  -- The first of its own names.
  own_here : (p : ℕ) → NamesAt ns bs r (names_used (depth_at ns r - 1)) p → OwnAt ns bs r p
  unfolding own_names_of
  own_here p a =
      let h = fewer (depth_at ns r) row-deep row-shallow in
      let n = name-stands ns bs r (names_used (depth_at ns r - 1)) p a h in
      record {
        deep = row-deep;
        shallow = row-shallow;
        inside = name-inside ns bs r (names_used (depth_at ns r - 1)) p a h;
        name = n;
        plain = plain-name _ key_fits.oid;
        next = name-passed ns bs r (names_used (depth_at ns r - 1)) p a h;
      }

  pub own_at : (d k p : ℕ) → d ≡ depth_at ns r → k ≡ names_used (d - 1) → NamesAt ns bs r k p → OwnAt ns bs r p
  own_at d k p e f a = own_here p (rw (f ∙ ap (λ x. names_used (x - 1)) e) at a)

  -- Behind it, at depths 2 to 4, its repeat key.
  two_own : (d : ℕ) → (d ≡ 1 → ⊥) → (d ≡ 5 → ⊥) → 1 ≤ d → d ≤ 5 → names_used (d - 1) + 1 < names_used d
  unfolding names_used pick
  two_own d x y l h = by_depth (λ d. (d ≡ 1 → ⊥) → (d ≡ 5 → ⊥) → names_used (d - 1) + 1 < names_used d)
      (λ x y. absurd (x refl)) (λ x y. lit< tt) (λ x y. lit< tt) (λ x y. lit< tt) (λ x y. absurd (y refl)) d l h x y

  second : (i : ℕ) (k : Key) → get_or (drop (i + 1) k) 0 [] ≡ get_or (drop i k) 1 []
  second i k = ap (λ (l : Key). get_or l 0 []) (sym (drop-drop 1 i k)) ∙ head (drop i k)
    where
      head : (l : Key) → get_or (drop 1 l) 0 [] ≡ get_or l 1 []
      head [] = refl
      head (x ∷ l) = refl

  pub repeat_at : (d q : ℕ) → d ≡ depth_at ns r → NamesAt ns bs r (names_used (depth_at ns r - 1) + 1) q → (d ≡ 1 → ⊥) → (d ≡ 5 → ⊥) → RepeatAt ns bs r q
  unfolding own_names_of
  repeat_at d q e a x y =
      let h : names_used (depth_at ns r - 1) + 1 < names_used (depth_at ns r) =
      two_own (depth_at ns r) (λ z. x (e ∙ z)) (λ z. y (e ∙ z)) row-deep row-shallow in
      let n = name-stands ns bs r (names_used (depth_at ns r - 1) + 1) q a h ∙ second (names_used (depth_at ns r - 1)) (key_at ns bs r) in
      record {
        inside = name-inside ns bs r (names_used (depth_at ns r - 1) + 1) q a h;
        name = n;
        plain = plain_repeat _ key_fits.rep;
      }

  -- Behind an item's name, its value.
  no_more : (d : ℕ) → d ≡ 5 → names_used d ≤ names_used (d - 1) + 1
  unfolding names_used pick
  no_more d e = rw e (lit≤ tt)

  pub value-at : (d q to : ℕ) → d ≡ depth_at ns r → NamesAt ns bs r (names_used (depth_at ns r - 1) + 1) q → d ≡ 5 → to ≡ end_at ns r
      → take (packed_at + to - q) (drop q bs) ≡ value_at ns bs r
  unfolding packed
  value-at d q to e a five t =
      let many : length (key_at ns bs r) ≤ names_used (depth_at ns r - 1) + 1 = rw (count ns bs r) (no_more (depth_at ns r) (sym e ∙ five)) in
      let z : drop (names_used (depth_at ns r - 1) + 1) (key_at ns bs r) ≡ [] = drop_past (key_at ns bs r) (names_used (depth_at ns r - 1) + 1) many in
      rw t (a.stands ∙ rw z)
