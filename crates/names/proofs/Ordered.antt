-- One `lex` at both levels: it is a total order where the order of the elements is one; a parent comes before its children; and the
-- descendants of a key stand together behind it.
use mathlib.Core.Path.{◌≡◌, refl, sym, ◌∙◌, ap}
use mathlib.Core.List.{List, [], ◌∷◌, ◌++◌}
use mathlib.Core.Bool.{Bool, true, false, false≢true}
use Prim.Native.Nat.{ℕ, ◌<◌}
use native.Mathlib.Nat.{le_antisymm, lt_trans}
use native.Mathlib.Omega.{arith}
use lib.Dec.{ltb, eqb}
use borrow.Author.Tests.{lt-ltb, le-ltb, ltb-true, ltb-false, eq-eqb, eqb-true}
use Rattle.std.specs.declared.cmp.Ordering.{Ordering}
use Rattle.std.specs.declared.cmp.Ordering.TheVariants.{Less, Equal, Greater}
use lib.ListN.{length, take}
use Rattle.names.specs.Order.{and_then, not_after, lex, alike, begins, byte_order, bytes_order, same}
use Rattle.names.specs.Key.{Key, Name, key_order, same_key, covers}
use Rattle.names.specs.Pick.{pick, ◌and◌}
use Rattle.names.proofs.Tests.{and_l, and_r, not_then, each_way}

abbrev pub flip : Ordering → Ordering
flip Less = Greater
flip Equal = Equal
flip Greater = Less

pub record IsOrder (A : Type 0) (f : A → A → Ordering) : Type 0 where
  pub alike : (x : A) → f x x ≡ Equal
  pub equal : (x y : A) → f x y ≡ Equal → x ≡ y
  pub flipped : (x y : A) → f y x ≡ flip (f x y)
  pub trans : (x y z : A) → f x y ≡ Less → f y z ≡ Less → f x z ≡ Less

-- Bytes, by the three cases.
byte-alike : (n : ℕ) → byte_order n n ≡ Equal
unfolding byte_order pick
byte-alike n = simp (le-ltb n n (omega arith))

byte-equal : (m n : ℕ) → byte_order m n ≡ Equal → m ≡ n
unfolding byte_order pick
byte-equal m n e = go (ltb m n) refl (ltb n m) refl e
  where
    go : (b : Bool) → ltb m n ≡ b → (c : Bool) → ltb n m ≡ c → pick b Less (pick c Greater Equal) ≡ Equal → m ≡ n
    go true p c q e = cc
    go false p true q e = cc
    go false p false q e = le_antisymm (ltb-false n m q) (ltb-false m n p)

byte_flipped : (m n : ℕ) → byte_order n m ≡ flip (byte_order m n)
unfolding byte_order pick
byte_flipped m n = go (ltb m n) refl (ltb n m) refl
  where
    go : (b : Bool) → ltb m n ≡ b → (c : Bool) → ltb n m ≡ c → pick c Less (pick b Greater Equal) ≡ flip (pick b Less (pick c Greater Equal))
    go true p true q = let h : m < n = ltb-true m n p in let k : n < m = ltb-true n m q in absurd (omega arith)
    go true p false q = refl
    go false p true q = refl
    go false p false q = refl

pub byte_lt : (m n : ℕ) → byte_order m n ≡ Less → m < n
unfolding byte_order pick
byte_lt m n e = go (ltb m n) refl (ltb n m) e
  where
    go : (b : Bool) → ltb m n ≡ b → (c : Bool) → pick b Less (pick c Greater Equal) ≡ Less → m < n
    go true p c e = ltb-true m n p
    go false p true e = let z : ◌≡◌ {A = ℕ} 0 1 = cc in omega arith
    go false p false e = let z : ◌≡◌ {A = ℕ} 0 1 = cc in omega arith

byte_trans : (l m n : ℕ) → byte_order l m ≡ Less → byte_order m n ≡ Less → byte_order l n ≡ Less
unfolding byte_order pick
byte_trans l m n p q = rw (lt-ltb l n (lt_trans (byte_lt l m p) (byte_lt m n q)))

module _ {A : Type 0} (f : A → A → Ordering) (o : IsOrder A f) where
  lex-alike : (xs : List A) → lex f xs xs ≡ Equal
  unfolding lex
  lex-alike [] = refl
  lex-alike (x ∷ xs) = rw (o.alike x) (lex-alike xs)

  lex-equal : (xs ys : List A) → lex f xs ys ≡ Equal → xs ≡ ys
  unfolding lex
  lex-equal [] [] e = refl
  lex-equal [] (y ∷ ys) e = cc
  lex-equal (x ∷ xs) [] e = cc
  lex-equal (x ∷ xs) (y ∷ ys) e = go (lex-equal xs ys) (f x y) refl e
    where
      go : (lex f xs ys ≡ Equal → xs ≡ ys) → (c : Ordering) → f x y ≡ c → and_then c (lex f xs ys) ≡ Equal → x ∷ xs ≡ y ∷ ys
      go ih Less p q = cc
      go ih Equal p q = cc (o.equal x y p, ih q)
      go ih Greater p q = cc

  lex_flipped : (xs ys : List A) → lex f ys xs ≡ flip (lex f xs ys)
  unfolding lex
  lex_flipped [] [] = refl
  lex_flipped [] (y ∷ ys) = refl
  lex_flipped (x ∷ xs) [] = refl
  lex_flipped (x ∷ xs) (y ∷ ys) = rw (o.flipped x y, lex_flipped xs ys) (go (f x y) (lex f xs ys))
    where
      go : (c d : Ordering) → and_then (flip c) (flip d) ≡ flip (and_then c d)
      go Less d = refl
      go Equal d = refl
      go Greater d = refl

  lex_trans : (xs ys zs : List A) → lex f xs ys ≡ Less → lex f ys zs ≡ Less → lex f xs zs ≡ Less
  unfolding lex
  lex_trans xs [] [] p q = cc
  lex_trans xs (y ∷ ys) [] p q = cc
  lex_trans [] ys (z ∷ zs) p q = refl
  lex_trans (x ∷ xs) [] (z ∷ zs) p q = cc
  lex_trans (x ∷ xs) (y ∷ ys) (z ∷ zs) p q = go (lex_trans xs ys zs) (f x y) refl (f y z) refl p q
    where
      go : (lex f xs ys ≡ Less → lex f ys zs ≡ Less → lex f xs zs ≡ Less) → (c : Ordering) → f x y ≡ c → (d : Ordering) → f y z ≡ d
          → and_then c (lex f xs ys) ≡ Less → and_then d (lex f ys zs) ≡ Less → and_then (f x z) (lex f xs zs) ≡ Less
      go ih Less e Less g p q = rw (o.trans x y z e g)
      go ih Less e Equal g p q = rw (← o.equal y z g, e)
      go ih Less e Greater g p q = cc
      go ih Equal e Less g p q = rw (o.equal x y e, g)
      go ih Equal e Equal g p q = rw (o.equal x y e, g) (ih p q)
      go ih Equal e Greater g p q = cc
      go ih Greater e d g p q = cc

  pub lex-order : IsOrder (List A) (lex f)
  lex-order = record { alike = lex-alike; equal = lex-equal; flipped = lex_flipped; trans = lex_trans }

pub byte-order : IsOrder ℕ byte_order
byte-order = record { alike = byte-alike; equal = byte-equal; flipped = byte_flipped; trans = byte_trans }

pub name-order : IsOrder Name bytes_order
unfolding bytes_order
name-order = lex-order byte_order byte-order

pub key-order : IsOrder Key key_order
unfolding key_order
key-order = lex-order bytes_order name-order

-- Equality, at both levels.
module _ {A : Type 0} (r : A → A → Bool) where
  pub alike_eq : ((x y : A) → r x y ≡ true → x ≡ y) → (xs ys : List A) → alike r xs ys ≡ true → xs ≡ ys
  unfolding alike
  alike_eq f [] [] e = refl
  alike_eq f [] (y ∷ ys) e = cc
  alike_eq f (x ∷ xs) [] e = cc
  alike_eq f (x ∷ xs) (y ∷ ys) e = cc (f x y (and_l _ _ e), alike_eq f xs ys (and_r (r x y) _ e))

  pub alike_refl : ((x : A) → r x x ≡ true) → (xs : List A) → alike r xs xs ≡ true
  unfolding alike ◌and◌
  alike_refl f [] = refl
  alike_refl f (x ∷ xs) = rw (f x) (alike_refl f xs)

  -- A list begins with what it was joined to,
  pub begins-append : ((x : A) → r x x ≡ true) → (xs ys : List A) → begins r xs (xs ++ ys) ≡ true
  unfolding begins ◌and◌
  begins-append f [] ys = refl
  begins-append f (x ∷ xs) ys = rw (f x) (begins-append f xs ys)

  -- and one that begins with another has it in front.
  pub begins-take : ((x y : A) → r x y ≡ true → x ≡ y) → (xs ys : List A) → begins r xs ys ≡ true → take (length xs) ys ≡ xs
  unfolding begins
  begins-take f [] ys e = refl
  begins-take f (x ∷ xs) [] e = cc
  begins-take f (x ∷ xs) (y ∷ ys) e = cc (f x y (and_l _ _ e), begins-take f xs ys (and_r (r x y) _ e))

pub same_eq : (s t : List ℕ) → same s t ≡ true → s ≡ t
unfolding same
same_eq s t e = alike_eq eqb eqb-true s t e

pub same_refl : (s : List ℕ) → same s s ≡ true
unfolding same
same_refl s = alike_refl eqb (λ c. eq-eqb c c refl) s

pub same_sym : (s t : List ℕ) → same s t ≡ same t s
same_sym s t = each_way (same s t) (same t s) (λ e. rw (same_eq s t e) (same_refl t)) (λ e. rw (same_eq t s e) (same_refl s))

pub same_length : (s t : List ℕ) → (length s ≡ length t → ⊥) → same s t ≡ false
same_length s t h = not_then (same s t) (λ e. h (ap length (same_eq s t e)))

pub same_key_eq : (j k : Key) → same_key j k ≡ true → j ≡ k
unfolding same_key
same_key_eq j k e = alike_eq same same_eq j k e

pub same_key_refl : (k : Key) → same_key k k ≡ true
unfolding same_key
same_key_refl k = alike_refl same same_refl k

-- Order and equality say the same.
pub less-same : (A : Type 0) → Less ≡ Equal → A
less-same A e = let z : ◌≡◌ {A = ℕ} 0 1 = cc in absurd (omega arith)

pub more_same : (A : Type 0) → Greater ≡ Equal → A
more_same A e = let z : ◌≡◌ {A = ℕ} 0 1 = cc in absurd (omega arith)

pub same-less : (x y : Name) → bytes_order x y ≡ Less → same x y ≡ false
same-less x y e = not_then (same x y) (λ h. less-same ⊥ (sym e ∙ rw (same_eq x y h) (name-order.alike y)))

pub key-less : (x y : Key) → key_order x y ≡ Less → same_key x y ≡ false
key-less x y e = not_then (same_key x y) (λ h. less-same ⊥ (sym e ∙ rw (same_key_eq x y h) (key-order.alike y)))

pub key_more : (x y : Key) → key_order x y ≡ Greater → same_key x y ≡ false
key_more x y e = not_then (same_key x y) (λ h. more_same ⊥ (sym e ∙ rw (same_key_eq x y h) (key-order.alike y)))

pub key-same : (x y : Key) → key_order x y ≡ Equal → same_key x y ≡ true
key-same x y e = rw (key-order.equal x y e) (same_key_refl y)

-- "a parent precedes its children"
module _ {A : Type 0} (f : A → A → Ordering) (o : IsOrder A f) where
  pub prefix_less : (xs : List A) (y : A) (ys : List A) → lex f xs (xs ++ y ∷ ys) ≡ Less
  unfolding lex
  prefix_less [] y ys = refl
  prefix_less (x ∷ xs) y ys = rw (o.alike x) (prefix_less xs y ys)

  -- What lies between a list and a list that goes on from it begins with it.
  pub between : (p q x : List A) → not_after (lex f p x) ≡ true → not_after (lex f x (p ++ q)) ≡ true → take (length p) x ≡ p
  unfolding lex
  between [] q x a b = refl
  between (c ∷ p) q [] a b = absurd (false≢true a)
  between (c ∷ p) q (d ∷ x) a b = go (between p q x) (f c d) refl a (rw (o.flipped c d) at b)
    where
      go : (not_after (lex f p x) ≡ true → not_after (lex f x (p ++ q)) ≡ true → take (length p) x ≡ p) → (r : Ordering) → f c d ≡ r
          → not_after (and_then r (lex f p x)) ≡ true → not_after (and_then (flip (f c d)) (lex f x (p ++ q))) ≡ true → d ∷ take (length p) x ≡ c ∷ p
      go ih Less e a b = absurd (false≢true (rw e at b))
      go ih Equal e a b = cc (o.equal c d e, ih a (rw e at b))
      go ih Greater e a b = absurd (false≢true a)

pub parent-first : (k : Key) (n : Name) (ns : Key) → key_order k (k ++ n ∷ ns) ≡ Less
unfolding key_order
parent-first k n ns = prefix_less bytes_order name-order k n ns

-- The descendants of a key stand together behind it: what lies between a key and one of them is one of them.
pub together : (k d x : Key) → not_after (key_order k x) ≡ true → not_after (key_order x (k ++ d)) ≡ true → take (length k) x ≡ k
unfolding key_order
together k d x a b = between bytes_order name-order k d x a b

pub covers-append : (k d : Key) → covers k (k ++ d) ≡ true
unfolding covers
covers-append k d = begins-append same same_refl k d

pub covers-take : (k x : Key) → covers k x ≡ true → take (length k) x ≡ k
unfolding covers
covers-take k x e = begins-take same same_eq k x e
