-- A list of attributes with one more at its end, and the names that it has.
use mathlib.Core.Path.{◌≡◌, refl, ◌∙◌}
use mathlib.Core.Bool.{Bool, true, false, not, ◌||◌, false≢true}
use mathlib.Core.List.{List, [], ◌∷◌, ◌++◌}
use mathlib.Core.Option.{none, some}
use Prim.Native.Nat.{ℕ}
use borrow.Author.Tests.{not-true}
use Rattle.names.specs.Bytes.{all, any}
use Rattle.names.specs.Order.{same}
use Rattle.names.specs.Pick.{pick, ◌and◌}
use Rattle.names.proofs.Ordered.{same_sym}
use Rattle.names.proofs.Tests.{and_l, and_r, or_l, or_r}
use Rattle.reader.specs.Tag.{Attr, has, none_twice}
use Rattle.reader.specs.Element.{Attribute, get, known}
use Rattle.reader.specs.code.Places.{is_some}

-- The value of a name.
pub get_other : (n : List ℕ) (l : List Attr) (a : Attr) → same n a.name ≡ false → get n (l ++ (a ∷ [])) ≡ get n l
unfolding get pick
get_other n [] a e = rw e
get_other n (b ∷ l) a e = rw (get_other n l a e)

pub get_new : (n : List ℕ) (l : List Attr) (a : Attr) → get n l ≡ none → same n a.name ≡ true → get n (l ++ (a ∷ [])) ≡ some a.value
unfolding get pick
get_new n [] a e f = rw f
get_new n (b ∷ l) a e f = go (same n b.name) e (λ g. get_new n l a g f)
  where
    go : (t : Bool) → pick t (some b.value) (get n l) ≡ none → (get n l ≡ none → get n (l ++ (a ∷ [])) ≡ some a.value)
        → pick t (some b.value) (get n (l ++ (a ∷ []))) ≡ some a.value
    go true e ih = cc
    go false e ih = ih e

pub has-get : (n : List ℕ) (l : List Attr) → has n l ≡ is_some (get n l)
unfolding has any get is_some pick
has-get n [] = refl
has-get n (a ∷ l) = go (same n a.name) (has-get n l)
  where
    go : (t : Bool) → has n l ≡ is_some (get n l) → (t || has n l) ≡ is_some (pick t (some a.value) (get n l))
    go true ih = refl
    go false ih = ih

-- Names that stand there, once or twice.
has-at : (n : List ℕ) (l r : List Attr) (a : Attr) → same n a.name ≡ true → has n (l ++ (a ∷ r)) ≡ true
unfolding has any
has-at n [] r a e = rw e
has-at n (b ∷ l) r a e = go (same n b.name) (has-at n l r a e)
  where
    go : (t : Bool) → has n (l ++ (a ∷ r)) ≡ true → (t || has n (l ++ (a ∷ r))) ≡ true
    go true ih = refl
    go false ih = ih

has_not : (n : List ℕ) (l : List Attr) (a : Attr) → has n l ≡ false → same n a.name ≡ false → has n (l ++ (a ∷ [])) ≡ false
unfolding has any
has_not n [] a e f = rw f
has_not n (b ∷ l) a e f = rw (or_l (same n b.name) _ e) (has_not n l a (or_r (same n b.name) _ e) f)

pub distinct_more : (l : List Attr) (a : Attr) → none_twice l ≡ true → has a.name l ≡ false → none_twice (l ++ (a ∷ [])) ≡ true
unfolding none_twice ◌and◌
distinct_more [] a e f = unfold has any in refl
distinct_more (b ∷ l) a e f =
    let x : same a.name b.name ≡ false = unfold has any in or_l (same a.name b.name) (has a.name l) f in
    let y : has a.name l ≡ false = unfold has any in or_r (same a.name b.name) (has a.name l) f in
    let z = not-true (has b.name l) (and_l (not (has b.name l)) (none_twice l) e) in
    rw (has_not b.name l a z (same_sym b.name a.name ∙ x)) (distinct_more l a (and_r (not (has b.name l)) (none_twice l) e) y)

pub distinct_again : (l r : List Attr) (a : Attr) → has a.name l ≡ true → none_twice (l ++ (a ∷ r)) ≡ false
unfolding none_twice ◌and◌
distinct_again [] r a e = absurd (false≢true (unfold has any in e))
distinct_again (b ∷ l) r a e = go (same a.name b.name) refl (unfold has any in e) (distinct_again l r a)
  where
    no : (t : Bool) → (t and false) ≡ false
    no true = refl
    no false = refl

    go : (t : Bool) → same a.name b.name ≡ t → (t || has a.name l) ≡ true → (has a.name l ≡ true → none_twice (l ++ (a ∷ r)) ≡ false)
        → (not (has b.name (l ++ (a ∷ r))) and none_twice (l ++ (a ∷ r))) ≡ false
    go true p e ih = rw (has-at b.name l r a (same_sym b.name a.name ∙ p))
    go false p e ih = rw (ih e) (no (not (has b.name (l ++ (a ∷ r)))))

-- None stands twice among all, so none among those before the last, and that one is not among them.
module _ (a : Attr) where
  has-front : (n : List ℕ) (l : List Attr) → has n (l ++ (a ∷ [])) ≡ false → has n l ≡ false
  unfolding has any
  has-front n [] e = refl
  has-front n (b ∷ l) e = rw (or_l (same n b.name) _ e) (has-front n l (or_r (same n b.name) _ e))

  pub distinct-front : (l : List Attr) → none_twice (l ++ (a ∷ [])) ≡ true → none_twice l ≡ true
  unfolding none_twice ◌and◌
  distinct-front [] e = refl
  distinct-front (b ∷ l) e =
      let z = not-true (has b.name (l ++ (a ∷ []))) (and_l (not (has b.name (l ++ (a ∷ [])))) (none_twice (l ++ (a ∷ []))) e) in
      rw (has-front b.name l z) (distinct-front l (and_r (not (has b.name (l ++ (a ∷ [])))) (none_twice (l ++ (a ∷ []))) e))

-- Names of a row.
module _ (rows : List Attribute) where
  pub known_more : (l : List Attr) (a : Attr) → known rows (l ++ (a ∷ [])) ≡ (known rows l and any (λ r. same r.name a.name) rows)
  unfolding known all ◌and◌
  known_more [] a = go (any (λ r. same r.name a.name) rows)
    where
      go : (t : Bool) → (t and true) ≡ t
      go true = refl
      go false = refl
  known_more (b ∷ l) a = go (any (λ r. same r.name b.name) rows) (known_more l a)
    where
      go : (t : Bool) → known rows (l ++ (a ∷ [])) ≡ (known rows l and any (λ r. same r.name a.name) rows)
          → (t and known rows (l ++ (a ∷ []))) ≡ ((t and known rows l) and any (λ r. same r.name a.name) rows)
      go true ih = ih
      go false ih = refl
