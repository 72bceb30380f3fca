-- The element of an opening tag: told by its name where so many elements are open, or by the row in which its attributes were looked up.
use mathlib.Core.Path.{◌≡◌, refl, sym, ◌∙◌}
use mathlib.Core.Bool.{Bool, true, false, ◌||◌, false≢true}
use mathlib.Core.List.{List, [], ◌∷◌}
use mathlib.Core.Option.{Option, none, some}
use Prim.Native.Nat.{ℕ, suc, ◌-◌, ◌≤◌, ◌<◌}
use native.Mathlib.Omega.{arith}
use lib.Dec.{eqb, leb, ltb}
use lib.ListN.{length, drop, get_or, length-take}
use borrow.Author.Tests.{eqb-true, eqb-false, leb-true, ltb-true, ltb-false, eq-eqb, ne_eqb, lt-ltb, le-leb}
use Rattle.std.specs.Prelude.{Some, None, MatchOption, unwrap_or}
use Rattle.std.specs.Prelude as code
use Rattle.names.specs.Order.{alike, same}
use Rattle.names.specs.Pick.{pick, ◌and◌}
use Rattle.names.proofs.Ordered.{same_eq, same_sym}
use Rattle.names.proofs.Tests.{below, at-below, not_then}
use Rattle.store.specs.Answer.{refused, ◌>>=◌, ◌>>◌, unless, present}
use Rattle.reader.specs.Tag.{Attr}
use Rattle.reader.specs.code.Places.{part, is_some}
use Rattle.reader.specs.Element.{Element, elements, element_at, next, element_in, element_of, item, may_stand, or_else, well_placed}
use Rattle.reader.specs.code.ElementNames.{item_in, row_here}
use Rattle.reader.proofs.ExpectedLaws.{element-plain}
use Rattle.reader.proofs.PlainNames.{plain_name}
use Rattle.reader.proofs.Forms.{element-below, stands-few, stands_at, stands-item}

-- An element that may not stand here is refused with 5.
pub placed_not : (items : Option Bool) (level : ℕ) (n : List ℕ) (l : List Attr) → ((e : ℕ) → element_of n ≡ some e → may_stand level e ≡ false)
    → well_placed items level n l ≡ refused 5
unfolding well_placed present ◌>>=◌
placed_not items level n l h = go (element_of n) refl
  where
    go : (o : Option ℕ) → element_of n ≡ o → well_placed items level n l ≡ refused 5
    go none p = rw p
    go (some e) p = rw (p, h e p) (unfold unless ◌>>◌ in refl)

element-name : (es : List Element) (n : List ℕ) (k : ℕ) (d : Element) → element_in es n ≡ some k → same (get_or es k d).name n ≡ true
unfolding element_in pick next
element-name [] n k d e = cc
element-name (x ∷ es) n k d e = go (same x.name n) refl k e (λ j f. element-name es n j d f)
  where
    go : (t : Bool) → same x.name n ≡ t → (k : ℕ) → pick t (some 0) (next (element_in es n)) ≡ some k
        → ((j : ℕ) → element_in es n ≡ some j → same (get_or es j d).name n ≡ true) → same (get_or (x ∷ es) k d).name n ≡ true
    go true p k e ih = let z : 0 ≡ k = cc in rw (← z) p
    go false p k e ih = behind (element_in es n) refl k e
      where
        behind : (o : Option ℕ) → element_in es n ≡ o → (k : ℕ) → next o ≡ some k → same (get_or (x ∷ es) k d).name n ≡ true
        behind none q k e = cc
        behind (some j) q k e = let z : suc j ≡ k = cc in rw (← z) (ih j q)

-- A name and the number of its element.
named_by : (n : List ℕ) (e : ℕ) → element_of n ≡ some e → same n (element_at e).name ≡ true
unfolding element_of element_at
named_by n e p = same_sym n _ ∙ element-name elements n e record { name = []; attributes = []; body = none } p

named-few : (n : List ℕ) (e : ℕ) → element_of n ≡ some e → e < 12
unfolding element_of elements
named-few n e p = element-below elements n e p

-- It is written as a name.
pub named-plain : (n : List ℕ) → is_some (element_of n) ≡ true → plain_name n ≡ true
named-plain n h = go (element_of n) refl h
  where
    go : (o : Option ℕ) → element_of n ≡ o → is_some o ≡ true → plain_name n ≡ true
    go none p h = absurd (false≢true (unfold is_some in h))
    go (some e) p h = rw (same_eq n (element_at e).name (named_by n e p)) (element-plain e (named-few n e p))

own_numbers : below 12 (λ e. eqb (or_else 12 (element_of (element_at e).name)) e) ≡ true
unfolding element_of element_in next element_at elements or_else same alike pick ◌and◌
own_numbers = refl

pub name-placed : (e : ℕ) (n : List ℕ) → e < 12 → same n (element_at e).name ≡ true → element_of n ≡ some e
name-placed e n h p =
    rw (same_eq n (element_at e).name p)
    (go (element_of (element_at e).name) (eqb-true _ e (at-below 12 (λ e. eqb (or_else 12 (element_of (element_at e).name)) e) own_numbers e h)))
  where
    go : (o : Option ℕ) → or_else 12 o ≡ e → o ≡ some e
    go none p = let z : 12 ≡ e = unfold or_else in p in absurd (omega arith)
    go (some k) p = let z : k ≡ e = unfold or_else in p in rw z

-- The row of a tag: where items stand,
items_here : (n : List ℕ) (level : ℕ) → level ≡ item → row_here level n ≡ item_in (element_of n)
unfolding row_here pick
items_here n level e = rw e

typed_here : (n : List ℕ) (e : ℕ) → element_of n ≡ some e → item < e → item_in (element_of n) ≡ e
unfolding item_in pick
typed_here n e p h = rw (p, lt-ltb item e h)

-- and elsewhere.
level_here : (n : List ℕ) (level : ℕ) → (level ≡ item → ⊥) → row_here level n ≡ level
unfolding row_here pick
level_here n level h = rw (ne_eqb level item h)

-- ODM's tag is the first.
pub row_odm : (n : List ℕ) (e : ℕ) → e ≡ 0 → e ≡ row_here 0 n
row_odm n e z = z ∙ sym (level_here n 0 (λ q. omega arith))

-- What holds of ItemData's number where the tag names no typed item, and of each typed item's that it names, holds of the row.
items_are : (P : ℕ → Type 0) (n : List ℕ) → (((e : ℕ) → element_of n ≡ some e → e ≤ item) → P item) → ((e : ℕ) → element_of n ≡ some e → item < e → P e)
    → P (item_in (element_of n))
unfolding item_in
items_are P n a h = go (element_of n) refl
  where
    by : (e : ℕ) (b : Bool) → element_of n ≡ some e → ltb item e ≡ b → P (pick b e item)
    by e true p q = unfold pick in h e p (ltb-true item e q)
    by e false p q = unfold pick in a (λ k f. let z : k ≡ e = cc in let l = ltb-false item e q in omega arith)

    go : (o : Option ℕ) → element_of n ≡ o → P (item_in o)
    go none p = a (λ k f. let z : ◌≡◌ {A = ℕ} 0 1 = cc in omega arith)
    go (some e) p = by e (ltb item e) p refl

rows_are : (P : ℕ → Type 0) (level : ℕ) (n : List ℕ) → (level ≡ item → P (item_in (element_of n))) → ((level ≡ item → ⊥) → P level) → P (row_here level n)
unfolding row_here
rows_are P level n h k = go (eqb level item) refl
  where
    go : (b : Bool) → eqb level item ≡ b → P (pick b (item_in (element_of n)) level)
    go true e = unfold pick in h (eqb-true level item e)
    go false e = unfold pick in k (eqb-false level item e)

pub row_below : (level : ℕ) (n : List ℕ) → level < 8 → row_here level n < 12
row_below level n h = rows_are (λ r. r < 12) level n (λ e. items_are (λ r. r < 12) n (λ few. omega arith) (λ e p g. named-few n e p)) (λ e. omega arith)

pub row-few : (level e : ℕ) (n : List ℕ) → e ≡ row_here level n → level < 8 → e < 12
row-few level e n p h = rw p (row_below level n h)

-- An element that may stand here is the row's, and that one may.
pub row_is : (level e : ℕ) (n : List ℕ) → element_of n ≡ some e → may_stand level e ≡ true → row_here level n ≡ e
row_is level e n p m =
    rows_are (λ r. r ≡ e) level n
    (λ q. items_are (λ r. r ≡ e) n (λ few. let a = stands-item level e m q in let b = few e p in omega arith) (λ k f g. let z : k ≡ e = cc in z))
    (λ q. sym (stands_at level e m (let few = stands-few level e m in omega arith)))

pub row-stands : (level : ℕ) (n : List ℕ) → level < 7 → may_stand level (row_here level n) ≡ true
unfolding may_stand
row-stands level n h =
    rows_are (λ r. may_stand level r ≡ true) level n
    (λ q. unfold pick in rw q (le-leb item _ (items_are (λ r. item ≤ r) n (λ few. omega arith) (λ e p g. omega arith))))
    (λ q. unfold pick ◌and◌ in rw (ne_eqb level item q, lt-ltb level item (omega arith), eq-eqb level level refl))

-- Where the row's element has another name, none may stand here.
pub name_misplaced : (items : Option Bool) (level : ℕ) (n : List ℕ) (l : List Attr) → same n (element_at (row_here level n)).name ≡ false
    → well_placed items level n l ≡ refused 5
name_misplaced items level n l f =
    placed_not items level n l
    (λ e p. not_then (may_stand level e) (λ m. false≢true (sym f ∙ rw (row_is level e n p m) (named_by n e p))))

-- The code's search for the row, among the typed items.
long-names : below 12 (λ e. leb e item || leb 9 (length (element_at e).name)) ≡ true
unfolding element_at elements ◌and◌
long-names = refl

typed_long : (e : ℕ) → item < e → e < 12 → 9 ≤ length (element_at e).name
typed_long e h g = go (leb e item) refl (at-below 12 (λ e. leb e item || leb 9 (length (element_at e).name)) long-names e g)
  where
    go : (b : Bool) → leb e item ≡ b → (b || leb 9 (length (element_at e).name)) ≡ true → 9 ≤ length (element_at e).name
    go true p q = let z = leb-true e item p in absurd (omega arith)
    go false p q = leb-true 9 (length (element_at e).name) q

module _ (level : ℕ) (n : List ℕ) where
  pub row_level : (level ≡ 6 → ⊥) → level ≡ row_here level n
  row_level h = sym (level_here n level h)

  module _ (inner : level ≡ 6) where
    item-row : ((e : ℕ) → element_of n ≡ some e → item < e → ⊥) → 6 ≡ row_here level n
    item-row h = sym (items_here n level inner ∙ items_are (λ r. r ≡ 6) n (λ few. refl) (λ e p g. absurd (h e p g)))

    pub row-short : length n ≤ 8 → 6 ≡ row_here level n
    row-short h = item-row (λ e p g.
        let l = typed_long e g (named-few n e p) in
        let z : length n ≡ length (element_at e).name = rw (same_eq n (element_at e).name (named_by n e p)) in
        omega arith)

    pub row_found : (e : ℕ) (t : Bool) → t ≡ same n (element_at e).name → t ≡ true → 7 ≤ e → e < 12 → e ≡ row_here level n
    row_found e t f g low high = sym (items_here n level inner ∙ typed_here n e (name-placed e n high (sym f ∙ g)) (omega arith))

    pub row-item : ((k : ℕ) → 7 ≤ k → k < 12 → same n (element_at k).name ≡ false) → 6 ≡ row_here level n
    row-item u = item-row (λ k p g. false≢true (sym (u k (omega arith) (named-few n k p)) ∙ named_by n k p))

pub row_told : (n : List ℕ) (r : code.Option ℕ)
    → MatchOption r ((k : ℕ) → 7 ≤ k → k < 12 → same n (element_at k).name ≡ false)
    (λ i. (7 ≤ i) × (i < 12) × (same n (element_at i).name ≡ true) × ((k : ℕ) → 7 ≤ k → k < i → same n (element_at k).name ≡ false))
    → (unwrap_or r 6 ≡ row_here item n) × (unwrap_or r 6 < 12)
row_told n None u = (row-item item n refl u, omega arith)
row_told n (Some i) u = (row_found item n refl i true (sym u.2) refl u.0 u.1, u.1)

-- By the places of the name.
pub row-short-part : (level : ℕ) (s : List ℕ) (a b : ℕ) → level ≡ 6 → b - a ≤ 8 → 6 ≡ row_here level (part s a b)
row-short-part level s a b e h = row-short level (part s a b) e (let l = length-take (b - a) (drop a s) in omega arith)

pub row_six : (level : ℕ) (n : List ℕ) (r : ℕ) → level ≡ 6 → (r ≡ row_here item n) × (r < 12) → r ≡ row_here level n
row_six level n r e f = rw e f.0
