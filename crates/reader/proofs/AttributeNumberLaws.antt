-- The number of a name in the row of an element, and the elements' own names.
use mathlib.Core.Path.{◌≡◌, refl, sym, ◌∙◌}
use mathlib.Core.Bool.{Bool, true, false, ◌||◌}
use mathlib.Core.List.{List, [], ◌∷◌, map}
use Prim.Native.Nat.{ℕ, suc, ◌+◌, ◌-◌, ◌≤◌, ◌<◌}
use native.Mathlib.Omega.{arith}
use lib.Dec.{eqb, leb, ltb}
use lib.ListN.{length, get_or, get_or-map}
use borrow.Author.Tests.{eqb-true, leb-true, lt-ltb}
use Rattle.names.specs.Bytes.{any}
use Rattle.names.specs.Order.{alike, same}
use Rattle.names.specs.Pick.{pick, ◌and◌}
use Rattle.names.proofs.Ordered.{same_eq}
use Rattle.names.proofs.Tests.{below, at-below, not_then}
use Rattle.reader.specs.Element.{Attribute, name, elements, element_at, attribute_at}
use Rattle.reader.specs.code.AttributeNumbers.{row_of, number_in, number_of}

-- A name's number: the name has that place in the row, and no other.
number_at : (k : ℕ) (ws : List (List ℕ)) (n : List ℕ) (j : ℕ) → number_in k ws n ≡ j → j < 8 → (k ≤ j) × (same (get_or ws (j - k) []) n ≡ true)
unfolding number_in pick
number_at k [] n j e h = absurd (omega arith)
number_at k (w ∷ ws) n j e h = go (same w n) refl e (λ f. number_at (suc k) ws n j f h)
  where
    go : (t : Bool) → same w n ≡ t → pick t k (number_in (suc k) ws n) ≡ j → (number_in (suc k) ws n ≡ j → (suc k ≤ j) × (same (get_or ws (j - suc k) []) n ≡ true))
        → (k ≤ j) × (same (get_or (w ∷ ws) (j - k) []) n ≡ true)
    go true p e ih = let z : j - k ≡ 0 = omega arith in (omega arith, rw (z, p))
    go false p e ih = let r = ih e in let z : j - k ≡ suc (j - suc k) = omega arith in (omega arith, rw z r.1)

pub attribute-is : (element j : ℕ) → attribute_at element j ≡ get_or (row_of (element_at element)) j []
unfolding attribute_at row_of
attribute-is element j = sym (get_or-map (λ (a : Attribute). a.name) (element_at element).attributes j record { name = []; required = false; form = name })

pub number_same : (element : ℕ) (n : List ℕ) (j : ℕ) → j ≡ number_of element n → j < 8 → same (attribute_at element j) n ≡ true
unfolding number_of
number_same element n j e h =
    let r = number_at 0 (row_of (element_at element)) n j (sym e) h in
    let z : j - 0 ≡ j = omega arith in
    rw (attribute-is element j) (rw z at r.1)

-- Computed at each place of each row: an attribute's name has that attribute's number; behind the row there is no name.
numbered : ℕ → ℕ → Bool
numbered element j = eqb (length (attribute_at element j)) 0 || eqb (number_of element (attribute_at element j)) j

all_numbered : below 12 (λ element. below 8 (λ j. numbered element j)) ≡ true
unfolding numbered number_of number_in attribute_at row_of element_at elements same alike pick ◌and◌
all_numbered = refl

pub own_number : (element j : ℕ) → element < 12 → j < 8 → 0 < length (attribute_at element j) → number_of element (attribute_at element j) ≡ j
unfolding numbered
own_number element j h l long =
    let t : numbered element j ≡ true = at-below 8 (λ j. numbered element j) (at-below 12 (λ element. below 8 (λ j. numbered element j)) all_numbered element h) j l in
    go (eqb (length (attribute_at element j)) 0) refl t
  where
    go : (b : Bool) → eqb (length (attribute_at element j)) 0 ≡ b → (b || eqb (number_of element (attribute_at element j)) j) ≡ true → number_of element (attribute_at element j) ≡ j
    go true p t = let z = eqb-true (length (attribute_at element j)) 0 p in absurd (omega arith)
    go false p t = eqb-true (number_of element (attribute_at element j)) j t

pub number-other : (element j k : ℕ) (n : List ℕ) → element < 12 → j < 8 → 0 < length n → k ≡ number_of element n → (j ≡ k → ⊥) → same (attribute_at element j) n ≡ false
number-other element j k n h l long e other = not_then (same (attribute_at element j) n) (λ f.
    let q : attribute_at element j ≡ n = same_eq (attribute_at element j) n f in
    let z : length (attribute_at element j) ≡ length n = rw q in
    other (sym (own_number element j h l (omega arith)) ∙ rw q (sym e)))

-- A name that has a number stands in the row.
row_has : (k : ℕ) (rs : List Attribute) (n : List ℕ) → k + length rs ≤ 8 → any (λ r. same r.name n) rs ≡ ltb (number_in k (map (λ (a : Attribute). a.name) rs) n) 8
unfolding any number_in
row_has k [] n h = refl
row_has k (r ∷ rs) n h = go (same r.name n) (row_has (suc k) rs n (omega arith))
  where
    go : (t : Bool) → any (λ r. same r.name n) rs ≡ ltb (number_in (suc k) (map (λ (a : Attribute). a.name) rs) n) 8
        → (t || any (λ r. same r.name n) rs) ≡ ltb (pick t k (number_in (suc k) (map (λ (a : Attribute). a.name) rs) n)) 8
    go true ih = unfold pick in sym (lt-ltb k 8 (omega arith))
    go false ih = unfold pick in ih

pub number-known : (element j : ℕ) (n : List ℕ) → element < 12 → j ≡ number_of element n → any (λ r. same r.name n) (element_at element).attributes ≡ ltb j 8
unfolding number_of row_of
number-known element j n h e =
    let short : below 12 (λ l. leb (length (element_at l).attributes) 8) ≡ true = unfold element_at elements ◌and◌ in refl in
    let w = leb-true (length (element_at element).attributes) 8 (at-below 12 (λ l. leb (length (element_at l).attributes) 8) short element h) in
    row_has 0 (element_at element).attributes n (omega arith) ∙ rw e
