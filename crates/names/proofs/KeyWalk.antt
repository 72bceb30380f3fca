-- Packed names in turn: the name at a place, and two keys compared name by name.
use mathlib.Core.Path.{◌≡◌, refl, sym, ◌∙◌, ap}
use mathlib.Core.Bool.{Bool, true, false, false≢true}
use mathlib.Core.List.{List, [], ◌∷◌}
use Prim.Native.Nat.{ℕ, zero, suc, ◌+◌, ◌-◌, ◌≤◌, ◌<◌, zero-le, suc-le-suc, min}
use native.Mathlib.Omega.{arith}
use borrow.Author.Tests.{leb-true, leb-false, ltb-true, ltb-false}
use lib.Dec.{leb, ltb}
use lib.ListN.{length, take, drop}
use lib.Seq.{take_all}
use Rattle.std.specs.declared.cmp.Ordering.{Ordering}
use Rattle.std.specs.declared.cmp.Ordering.TheVariants.{Less, Equal, Greater}
use Rattle.std.specs.Ordering.{nat_cmp, is_ne}
use Rattle.names.specs.Order.{and_then, lex, begins, byte_order, bytes_order, same}
use Rattle.names.specs.Pick.{pick, ◌and◌}
use Rattle.names.specs.Key.{Key, key_order, covers, names_in}
use Rattle.names.specs.code.KeyParts.{first_name, past_name}
use Rattle.names.proofs.Walk.{drop_past}
use Rattle.std.proofs.lemmas.Slice.{between_to_end}
use Rattle.names.proofs.Stretch.{cmp-byte}
use Rattle.names.proofs.Tests.{and_r, not_then}

-- The first name of a text, and what follows it.
abbrev pub Split : List ℕ → List ℕ → List ℕ → Type 0
Split s v r = (v ≡ first_name s) × (r ≡ past_name s)

-- As much of the first name as there is.
name-taken : (xs : List ℕ) (g l : ℕ) → l ≡ min g (length xs) → (take l xs ≡ take g xs) × (drop l xs ≡ drop g xs)
name-taken xs g l m = go (leb g (length xs)) refl
  where
    go : (b : Bool) → leb g (length xs) ≡ b → (take l xs ≡ take g xs) × (drop l xs ≡ drop g xs)
    go true e = let h = leb-true _ _ e in let z : l ≡ g = omega arith in (rw z, rw z)
    go false e =
        let h = leb-false _ _ e in
        (take_all l xs (omega arith) ∙ sym (take_all g xs (omega arith)), drop_past xs l (omega arith) ∙ sym (drop_past xs g (omega arith)))

pub split_none : (s : List ℕ) → length s ≡ 0 → Split s [] []
unfolding first_name past_name
split_none [] e = (refl, refl)
split_none (l ∷ s) e = absurd (omega arith)

pub split-more : (s rest : List ℕ) (len l : ℕ) (v r : List ℕ) → s ≡ len ∷ rest → l ≡ min len (length rest) → v ≡ take l rest → r ≡ drop l rest → Split s v r
unfolding first_name past_name
split-more s rest len l v r e m f g = let t = name-taken rest len l m in rw e (f ∙ t.0, g ∙ t.1)

pub names-first : (n : ℕ) (s : List ℕ) → names_in (suc n) s ≡ first_name s ∷ names_in n (past_name s)
unfolding names_in first_name past_name
names-first n [] = refl
names-first n (l ∷ s) = refl

ended : (m k : ℕ) → m ≤ k → m - k ≡ 0
ended m k h = omega arith

going : (m k : ℕ) → k < m → m - k ≡ suc (m - (k + 1))
going m k h = omega arith

first-decides : (o r : Ordering) → is_ne o ≡ true → and_then o r ≡ o
first-decides Less r g = refl
first-decides Equal r g = absurd (false≢true g)
first-decides Greater r g = refl

second-decides : (o r : Ordering) → is_ne o ≡ false → and_then o r ≡ r
second-decides Less r g = absurd (false≢true (sym g))
second-decides Equal r g = refl
second-decides Greater r g = absurd (false≢true (sym g))

-- A text from a place on, as it is lent.
pub rest-is : (s : List ℕ) (i : ℕ) → take (length s - i) (drop i s) ≡ drop i s
rest-is s i = between_to_end s i (length s) (omega arith)

pub order-begins : (m n : ℕ) (x y : List ℕ) → key_order (names_in m x) (names_in n y) ≡ key_order (names_in (m - 0) x) (names_in (n - 0) y)
order-begins m n x y =
    let f : m - 0 ≡ m = omega arith in
    let g : n - 0 ≡ n = omega arith in
    rw (f, g)

pub names_compared : (x y : List ℕ) (t : ℕ) (v w : List ℕ) (o : Ordering) → v ≡ first_name (take (length x - t) (drop t x)) → w ≡ first_name (take (length y - t) (drop t y))
    → o ≡ bytes_order v w → o ≡ bytes_order (first_name (drop t x)) (first_name (drop t y))
names_compared x y t v w o e f c = c ∙ rw (e, f, rest-is x t, rest-is y t)

-- With k of m names passed, the next one is the first that is left.
names-next : (s : List ℕ) (m k : ℕ) → k < m → (v r : List ℕ) → Split s v r → names_in (m - k) s ≡ v ∷ names_in (m - (k + 1)) r
names-next s m k h v r a = rw (going m k h, names-first, a.0, a.1)

-- Two keys M and N, of m and n packed names, of which k are passed and alike; the next ones stand in x and in y.
module _ (M N : Key) (x y : List ℕ) (m n k : ℕ) where
  module _ (inv : key_order M N ≡ key_order (names_in (m - k) x) (names_in (n - k) y)) where
    order-second-ends : k < m → n ≤ k → Greater ≡ key_order M N
    unfolding key_order lex names_in
    order-second-ends h g = sym (inv ∙ rw (going m k h, ended n k g, names-first))

    order-first-ends : m ≤ k → k < n → Less ≡ key_order M N
    unfolding key_order lex names_in
    order-first-ends h g = sym (inv ∙ rw (ended m k h, going n k g, names-first))

    order-both-end : m ≤ k → n ≤ k → Equal ≡ key_order M N
    unfolding key_order lex names_in
    order-both-end h g = sym (inv ∙ rw (ended m k h, ended n k g))

    -- No more names are in both, so the counts decide.
    pub order-over : k ≡ min m n → nat_cmp m n ≡ key_order M N
    unfolding byte_order pick
    order-over z = cmp-byte m n ∙ go (ltb m n) refl (ltb n m) refl
      where
        go : (s : Bool) → ltb m n ≡ s → (t : Bool) → ltb n m ≡ t → pick s Less (pick t Greater Equal) ≡ key_order M N
        go true e t f = let h = ltb-true m n e in order-first-ends (omega arith) (omega arith)
        go false e true f = let h = ltb-true n m f in order-second-ends (omega arith) (omega arith)
        go false e false f = let h = ltb-false m n e in let g = ltb-false n m f in order-both-end (omega arith) (omega arith)

    module _ (v w x' y' : List ℕ) (a : Split x v x') (b : Split y w y') (h : k < min m n) (o : Ordering) (c : o ≡ bytes_order v w) where
      both : key_order M N ≡ and_then o (key_order (names_in (m - (k + 1)) x') (names_in (n - (k + 1)) y'))
      unfolding key_order lex
      both = inv ∙ rw (names-next x m k (omega arith) v x' a, names-next y n k (omega arith) w y' b, ← c)

      pub order-here : is_ne o ≡ true → o ≡ key_order M N
      order-here g = sym (both ∙ first-decides o _ g)

      pub order-on_here : is_ne o ≡ false → key_order M N ≡ key_order (names_in (m - (k + 1)) x') (names_in (n - (k + 1)) y')
      order-on_here g = both ∙ second-decides o _ g

  module _ (inv : covers M N ≡ covers (names_in (m - k) x) (names_in (n - k) y)) where
    pub covers-ends : m ≤ k → true ≡ covers M N
    unfolding covers begins names_in
    covers-ends h = sym (inv ∙ rw (ended m k h))

    module _ (v w x' y' : List ℕ) (a : Split x v x') (b : Split y w y') (h : k < m) (g : m ≤ n) (t : Bool) (c : t ≡ same v w) where
      pub covers_differs : t ≡ false → false ≡ covers M N
      unfolding covers begins ◌and◌
      covers_differs z = sym (inv ∙ rw (names-next x m k h v x' a, names-next y n k (omega arith) w y' b, ← c, z))

      pub covers-on : t ≡ true → covers M N ≡ covers (names_in (m - (k + 1)) x') (names_in (n - (k + 1)) y')
      unfolding covers begins ◌and◌
      covers-on z = inv ∙ rw (names-next x m k h v x' a, names-next y n k (omega arith) w y' b, ← c, z)

-- A key of more names covers none of fewer.
pub names-length : (n : ℕ) (s : List ℕ) → length (names_in n s) ≡ n
unfolding names_in
names-length zero s = refl
names-length (suc n) [] = ap suc (names-length n [])
names-length (suc n) (l ∷ s) = ap suc (names-length n (drop l s))

pub covers-length : (j k : Key) → covers j k ≡ true → length j ≤ length k
unfolding covers begins
covers-length [] k e = zero-le
covers-length (x ∷ j) [] e = absurd (false≢true e)
covers-length (x ∷ j) (y ∷ k) e = suc-le-suc (covers-length j k (and_r (same x y) _ e))

pub covers_fewer : (m n : ℕ) (s t : List ℕ) → n < m → false ≡ covers (names_in m s) (names_in n t)
covers_fewer m n s t h =
    sym (not_then (covers (names_in m s) (names_in n t)) (λ e. let l = covers-length (names_in m s) (names_in n t) e in let x = names-length m s in let y = names-length n t in omega arith))
