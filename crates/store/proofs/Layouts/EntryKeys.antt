-- Packed names read in place: what `read_key` says of them name by name, and the key and value that it leaves.
use mathlib.Core.Path.{◌≡◌, refl, sym, ◌∙◌, ap}
use mathlib.Core.Bool.{Bool, true, false}
use mathlib.Core.List.{List, [], ◌∷◌, ◌++◌}
use mathlib.Core.Option.{Option, none, some}
use Prim.Native.Nat.{ℕ, zero, suc, ◌+◌, ◌-◌, ◌≤◌}
use native.Mathlib.Decide.{ℕ_discrete}
use native.Mathlib.Omega.{arith}
use lib.Dec.{eqb, leb}
use lib.ListN.{length, take, drop, length-append, length-take}
use lib.Seq.{take-take, drop-drop, length-take-le}
use borrow.Author.Tests.{leb-true, le-leb, eq-eqb}
use Rattle.names.specs.Key.{Name, Key, names_used, depth_of, is_repeat, are_levels, is_key, packed, names_in}
use Rattle.names.specs.code.HeldKey.{KeyRead, name_before, read_key}
use Rattle.names.specs.Name.{name_most, is_name_of, is_name}
use Rattle.names.specs.Pick.{pick, ◌and◌}
use Rattle.names.proofs.Tests.{and_l, and_r, and_true}
use Rattle.names.proofs.Walk.{drop-take}
use Rattle.names.proofs.KeyForm.{depth_used}
use Rattle.store.specs.code.Entry.{IsUsed, after_name, after_key}

-- A fact of every depth.
pub by_depth : (P : ℕ → Type 0) → P 1 → P 2 → P 3 → P 4 → P 5 → (d : ℕ) → 1 ≤ d → d ≤ 5 → P d
by_depth P a b c e f d l h =
    elim (ℕ_discrete d 1) [
      | yes q ↦ rw q a
      | no n1 ↦ elim (ℕ_discrete d 2) [
        | yes q ↦ rw q b
        | no n2 ↦ elim (ℕ_discrete d 3) [
          | yes q ↦ rw q c
          | no n3 ↦ elim (ℕ_discrete d 4) [
            | yes q ↦ rw q e
            | no n4 ↦ let q : d ≡ 5 = omega arith in rw q f
          ]
        ]
      ]
    ]

pub used_some : (n : ℕ) → IsUsed n → 1 ≤ n
unfolding names_used pick
used_some n u =
    rw u.count
    (by_depth (λ d. 1 ≤ names_used d) (omega arith) (omega arith) (omega arith) (omega arith) (omega arith) u.depth u.low u.high)

pub name-length : (m : Name) → is_name m ≡ true → length m ≤ name_most
unfolding is_name is_name_of
name-length m e = leb-true (length m) name_most (and_l _ _ (and_r _ _ e))

pub repeat_length : (m : Name) → is_repeat m ≡ true → length m ≤ name_most
unfolding is_repeat
repeat_length [] e = omega arith
repeat_length (c ∷ s) e = name-length (c ∷ s) e

-- A read key has as many names as were asked for.
before_some : (m : Name) (o : Option KeyRead) (r : KeyRead) → name_before m o ≡ some r
    → (q : KeyRead) × (o ≡ some q) × (r.key ≡ m ∷ q.key) × (r.rest ≡ q.rest)
unfolding name_before
before_some m none r e = let z : ◌≡◌ {A = ℕ} 0 1 = cc in absurd (omega arith)
before_some m (some q) r e = (q, refl, cc, cc)

-- What a name that was read went through.
read_some : (n l : ℕ) (s : List ℕ) (r : KeyRead) → read_key (suc n) (l ∷ s) ≡ some r
    → (q : KeyRead) × (l ≤ length s) × (read_key n (drop l s) ≡ some q) × (r.key ≡ take l s ∷ q.key) × (r.rest ≡ q.rest)
unfolding read_key pick ◌and◌
read_some n l s r e = go (leb l name_most) (leb l (length s)) refl e
  where
    go : (a b : Bool) → leb l (length s) ≡ b → pick (a and b) (name_before (take l s) (read_key n (drop l s))) none ≡ some r
        → (q : KeyRead) × (l ≤ length s) × (read_key n (drop l s) ≡ some q) × (r.key ≡ take l s ∷ q.key) × (r.rest ≡ q.rest)
    go true true h e = let b = before_some _ _ r e in (b.0, leb-true _ _ h, b.1, b.2, b.3)
    go true false h e = let z : ◌≡◌ {A = ℕ} 0 1 = cc in absurd (omega arith)
    go false b h e = let z : ◌≡◌ {A = ℕ} 0 1 = cc in absurd (omega arith)

pub read_length : (n : ℕ) (s : List ℕ) (r : KeyRead) → read_key n s ≡ some r → length r.key ≡ n
unfolding read_key
read_length zero s r e = let k : r.key ≡ [] = cc in rw k
read_length (suc n) [] r e = let z : ◌≡◌ {A = ℕ} 0 1 = cc in absurd (omega arith)
read_length (suc n) (l ∷ s) r e =
    let b = read_some n l s r e in
    rw (b.3, read_length n (drop l s) b.0 b.2)

-- The names that stand whole in the first bytes of a text are those that it begins with.
pub read_names : (n w : ℕ) (s : List ℕ) (r : KeyRead) → read_key n (take w s) ≡ some r → names_in n s ≡ r.key
unfolding read_key names_in
read_names zero w s r e = cc
read_names (suc n) zero s r e = let z : ◌≡◌ {A = ℕ} 0 1 = cc in absurd (omega arith)
read_names (suc n) (suc w) [] r e = let z : ◌≡◌ {A = ℕ} 0 1 = cc in absurd (omega arith)
read_names (suc n) (suc w) (l ∷ s) r e =
    let b = read_some n l (take w s) r e in
    let f : l ≤ length (take w s) = b.1 in
    let h : l ≤ w = omega (arith, length-take w s) in
    let g : read_key n (take (w - l) (drop l s)) ≡ some b.0 = rw (drop-take l w s) at b.2 in
    rw (b.3, take-take l w s h, read_names n (w - l) (drop l s) b.0 g)

-- What follows them is what `rest` says.
pub read-rest : (n : ℕ) (s : List ℕ) (r : KeyRead) → read_key n s ≡ some r → drop (length (packed r.key)) s ≡ r.rest
unfolding read_key packed
read-rest zero s r e = let k : r.key ≡ [] = cc in let t : s ≡ r.rest = cc in rw k t
read-rest (suc n) [] r e = let z : ◌≡◌ {A = ℕ} 0 1 = cc in absurd (omega arith)
read-rest (suc n) (l ∷ s) r e =
    let b = read_some n l s r e in
    let f : l ≤ length s = b.1 in
    let w : length (take l s ++ packed b.0.key) ≡ l + length (packed b.0.key) = rw (length-append, length-take-le l s f) in
    ap (λ (k : Key). drop (length (packed k)) (l ∷ s)) b.3
    ∙ ap (λ (m : ℕ). drop m s) w
    ∙ sym (drop-drop (length (packed b.0.key)) l s)
    ∙ read-rest n (drop l s) b.0 b.2
    ∙ sym b.4

-- One name after another: a test of the names that is a test of the first and one of the others.
unfoldable pub behind_next : Option (List ℕ) → (List ℕ → Option (List ℕ)) → Option (List ℕ)
behind_next none f = none
behind_next (some t) f = f t

module _ (p q : Key → Bool) (x : Name → Bool) (n : ℕ) (splits : (m : Name) (k : Key) → length k ≡ n → p (m ∷ k) ≡ (x m and q k))
    (short : (m : Name) → x m ≡ true → length m ≤ name_most) where
  behind-before : (m : Name) (b : Bool) → x m ≡ b → (s : List ℕ) (o : Option KeyRead) → read_key n s ≡ o
      → after_key p (name_before m o) ≡ pick b (after_key q o) none
  unfolding after_key name_before pick ◌and◌
  behind-before m true e s none f = refl
  behind-before m false e s none f = refl
  behind-before m true e s (some r) f = rw (splits m r.key (read_length n s r f), e)
  behind-before m false e s (some r) f = rw (splits m r.key (read_length n s r f), e)

  pub behind_step : (s : List ℕ) → after_key p (read_key (suc n) s) ≡ behind_next (after_name x s) (λ t. after_key q (read_key n t))
  unfolding read_key after_name after_key behind_next pick ◌and◌
  behind_step [] = refl
  behind_step (l ∷ s) = go (leb l (length s)) refl (x (take l s)) refl
    where
      rest : Option (List ℕ)
      rest = after_key q (read_key n (drop l s))

      go : (a : Bool) → leb l (length s) ≡ a → (b : Bool) → x (take l s) ≡ b
          → after_key p (pick (leb l name_most and leb l (length s)) (name_before (take l s) (read_key n (drop l s))) none)
          ≡ behind_next (pick (leb l (length s) and x (take l s)) (some (drop l s)) none) (λ t. after_key q (read_key n t))
      go false h b e = rw (h) (whole (leb l name_most))
        where
          whole : (c : Bool) → after_key p (pick (c and false) (name_before (take l s) (read_key n (drop l s))) none) ≡ none
          whole true = refl
          whole false = refl
      go true h true e =
          let f : l ≤ length s = leb-true l (length s) h in
          let g : length (take l s) ≤ name_most = short (take l s) e in
          let k : leb l name_most ≡ true = le-leb l name_most (omega (arith, length-take-le l s f)) in
          rw (h, e, k) (behind-before (take l s) true e (drop l s) (read_key n (drop l s)) refl)
      go true h false e = rw (h, e) (whole (leb l name_most))
        where
          whole : (c : Bool) → after_key p (pick (c and true) (name_before (take l s) (read_key n (drop l s))) none) ≡ none
          whole true = behind-before (take l s) false e (drop l s) (read_key n (drop l s)) refl
          whole false = refl

-- A repeat key first, then levels.
unfoldable pub repeat_first : Key → Bool
repeat_first [] = true
repeat_first (r ∷ k) = is_repeat r and are_levels k

pub key_splits : (n : ℕ) → IsUsed (suc n) → (m : Name) (k : Key) → length k ≡ n → is_key (m ∷ k) ≡ (is_name m and are_levels k)
unfolding is_key
key_splits n u m k e =
    let f : length (m ∷ k) ≡ names_used u.depth = ap suc e ∙ u.count in
    let d : depth_of (m ∷ k) ≡ u.depth = depth_used u.depth (m ∷ k) u.low u.high f in
    let t : eqb (names_used (depth_of (m ∷ k))) (length (m ∷ k)) ≡ true = eq-eqb _ _ (ap names_used d ∙ sym f) in
    rw t (ap (λ (b : Bool). is_name m and b) (and_true (are_levels k)))

pub levels_split : (m : Name) (k : Key) → are_levels (m ∷ k) ≡ (is_name m and repeat_first k)
unfolding are_levels repeat_first
levels_split m [] = sym (and_true (is_name m))
levels_split m (r ∷ k) = refl
