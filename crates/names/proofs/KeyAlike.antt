-- Bytes and names that stand alike in two texts: eight bytes told by one number, and the names that they hold passed at once.
use mathlib.Core.Path.{◌≡◌, refl, sym, ◌∙◌, ap}
use mathlib.Core.Bool.{Bool, true}
use mathlib.Core.List.{List, [], ◌∷◌, ◌++◌}
use Prim.Native.Nat.{ℕ, zero, suc, ◌+◌, ◌-◌, ◌*◌, ◌≤◌, ◌<◌}
use native.Mathlib.Nat.{add-zero, not-suc-le-zero, le_of_suc-le-suc}
use native.Mathlib.Numerals.{add-one}
use native.Mathlib.Omega.{arith}
use lib.ListN.{length, get_or, take, drop}
use lib.Seq.{drop-drop, take-add, take-take}
use Rattle.names.specs.declared.key.Passed.{Passed}
use Rattle.names.specs.Order.{begins, same}
use Rattle.names.specs.Pick.{◌and◌}
use Rattle.names.specs.Key.{covers, names_in}
use Rattle.names.specs.code.KeyParts.{first_name, past_name, past_names, four_at, AlikeFor, PassedIn}
use Rattle.names.proofs.Ordered.{same_refl}
use Rattle.names.proofs.Walk.{drop_here, drop-take}
use Rattle.names.proofs.KeyWalk.{names-first, rest-is}

-- A byte and what stands above it, from their sum.
low_same : (a b x y : ℕ) → a < 256 → b < 256 → a + 256 * x ≡ b + 256 * y → a ≡ b
low_same a b x y h k e = omega arith

high_same : (a b x y : ℕ) → a < 256 → b < 256 → a + 256 * x ≡ b + 256 * y → x ≡ y
high_same a b x y h k e = omega arith

module _ (s : List ℕ) (bytes : (i : ℕ) → get_or s i 0 < 256) where
  four_small : (p : ℕ) → four_at s p < 4294967296
  four_small p = omega (arith, bytes p, bytes (p + 1), bytes (p + 2), bytes (p + 3))

pub four_at_lem : (s : List ℕ) (p : ℕ) → p + 4 ≤ length s → take 4 (drop p s) ≡ get_or s p 0 ∷ get_or s (p + 1) 0 ∷ get_or s (p + 2) 0 ∷ get_or s (p + 3) 0 ∷ []
four_at_lem s p h =
    let two : p + 1 + 1 ≡ p + 2 = omega arith in
    let three : p + 2 + 1 ≡ p + 3 = omega arith in
    rw (drop_here s p (omega arith), drop_here s (p + 1) (omega arith), two, drop_here s (p + 2) (omega arith), three, drop_here s (p + 3) (omega arith))

module _ (s t : List ℕ) (first : (i : ℕ) → get_or s i 0 < 256) (second : (i : ℕ) → get_or t i 0 < 256) where
  four_same : (p q : ℕ) → p + 4 ≤ length s → q + 4 ≤ length t → four_at s p ≡ four_at t q → take 4 (drop p s) ≡ take 4 (drop q t)
  four_same p q h k e =
      let a : get_or s p 0 ≡ get_or t q 0 = low_same _ _ _ _ (first p) (second q) e in
      let x = high_same (get_or s p 0) (get_or t q 0) _ _ (first p) (second q) e in
      let b : get_or s (p + 1) 0 ≡ get_or t (q + 1) 0 = low_same _ _ _ _ (first (p + 1)) (second (q + 1)) x in
      let y = high_same (get_or s (p + 1) 0) (get_or t (q + 1) 0) _ _ (first (p + 1)) (second (q + 1)) x in
      let c : get_or s (p + 2) 0 ≡ get_or t (q + 2) 0 = low_same _ _ _ _ (first (p + 2)) (second (q + 2)) y in
      let d : get_or s (p + 3) 0 ≡ get_or t (q + 3) 0 = high_same (get_or s (p + 2) 0) (get_or t (q + 2) 0) _ _ (first (p + 2)) (second (q + 2)) y in
      rw (four_at_lem s p h, four_at_lem t q k, a, b, c, d)

  pub eight-same : (p q : ℕ) → p + 8 ≤ length s → q + 8 ≤ length t → four_at s p + 4294967296 * four_at s (p + 4) ≡ four_at t q + 4294967296 * four_at t (q + 4)
      → take 8 (drop p s) ≡ take 8 (drop q t)
  eight-same p q h k e =
      let a : four_at s p < 4294967296 = four_small s first p in
      let b : four_at t q < 4294967296 = four_small t second q in
      let low : four_at s p ≡ four_at t q = (parts (four_at s p) (four_at t q) (four_at s (p + 4)) (four_at t (q + 4)) a b e).0 in
      let high : four_at s (p + 4) ≡ four_at t (q + 4) = (parts (four_at s p) (four_at t q) (four_at s (p + 4)) (four_at t (q + 4)) a b e).1 in
      take-add 4 4 (drop p s)
      ∙ rw (drop-drop 4 p s, four_same p q (omega arith) (omega arith) low, four_same (p + 4) (q + 4) (omega arith) (omega arith) high, ← drop-drop 4 q t)
      (sym (take-add 4 4 (drop q t)))
    where
      parts : (l m x y : ℕ) → l < 4294967296 → m < 4294967296 → l + 4294967296 * x ≡ m + 4294967296 * y → (l ≡ m) × (x ≡ y)
      parts l m x y h k e = (omega arith, omega arith)

pub alike_none : (s : List ℕ) (p : ℕ) (t : List ℕ) (q : ℕ) → p ≤ length s → q ≤ length t → AlikeFor s p t q 0
alike_none s p t q h k = record { first = omega arith; second = omega arith; alike = refl }

-- Eight bytes more.
pub alike-more : (s : List ℕ) (p : ℕ) (t : List ℕ) (q n x y : ℕ) → ((i : ℕ) → get_or s i 0 < 256) → ((i : ℕ) → get_or t i 0 < 256) → AlikeFor s p t q n
    → 8 ≤ length s - (p + n) → 8 ≤ length t - (q + n)
    → x ≡ four_at s (p + n) + 4294967296 * four_at s (p + n + 4) → y ≡ four_at t (q + n) + 4294967296 * four_at t (q + n + 4) → x ≡ y → AlikeFor s p t q (n + 8)
alike-more s p t q n x y a b w h k e f g =
    let u = w.first in
    let v = w.second in
    record {
      first = omega arith;
      second = omega arith;
      alike = take-add n 8 (drop p s)
          ∙ rw (drop-drop n p s, w.alike, eight-same s t a b (p + n) (q + n) (omega arith) (omega arith) (sym e ∙ g ∙ f), ← drop-drop n q t)
          (sym (take-add n 8 (drop q t)));
    }

-- Fewer bytes.
pub alike_fewer : (s : List ℕ) (p : ℕ) (t : List ℕ) (q m n : ℕ) → m ≤ n → AlikeFor s p t q n → AlikeFor s p t q m
alike_fewer s p t q m n h w =
    let u = w.first in
    let v = w.second in
    record { first = omega arith; second = omega arith; alike = rw (← take-take m n (drop p s) h, w.alike) (take-take m n (drop q t) h) }

-- The names passed, and one more.
names_more : (n : ℕ) (s : List ℕ) → names_in (suc n) s ≡ names_in n s ++ (first_name (past_names n s) ∷ [])
unfolding names_in past_names
names_more zero s = names-first 0 s
names_more (suc n) s = rw (names-first (suc n) s, names_more n (past_name s), names-first n s)

pub past_more : (n : ℕ) (s : List ℕ) → past_names (suc n) s ≡ past_name (past_names n s)
unfolding past_names
past_more zero s = refl
past_more (suc n) s = past_more n (past_name s)

pub names_split : (k m : ℕ) (s : List ℕ) → k ≤ m → names_in m s ≡ names_in k s ++ names_in (m - k) (past_names k s)
unfolding names_in past_names
names_split zero m s h = let z : m - 0 ≡ m = omega arith in rw z
names_split (suc k) zero s h = absurd (not-suc-le-zero h)
names_split (suc k) (suc m) s h = let z : suc m - suc k ≡ m - k = omega arith in rw (names-first m s, names-first k s, z, names_split k m (past_name s) (le_of_suc-le-suc h))

-- A whole name among bytes that stand alike is the same in both.
name-alike : (n l : ℕ) (s t : List ℕ) → take n (l ∷ s) ≡ take n t → l + 1 ≤ n → (first_name t ≡ take l s) × (past_name t ≡ drop l (drop 1 t))
unfolding first_name past_name
name-alike zero l s t e h = absurd (omega arith)
name-alike (suc n) l s [] e h = let q : suc (length (take n s)) ≡ 0 = ap length e in absurd (omega arith)
name-alike (suc n) l s (m ∷ t) e h =
    let q : m ≡ l = cc in
    let r : take n t ≡ take n s = cc in
    (rw (q, ← take-take l n t (omega arith), r) (take-take l n s (omega arith)), rw q)

-- The loop over the names: k of them take the first d of n bytes that stand alike.
pub record Passing (s : List ℕ) (p : ℕ) (t : List ℕ) (q d k : ℕ) : Type 0 where
  pub names : names_in k (drop p s) ≡ names_in k (drop q t)
  pub rest : past_names k (drop p s) ≡ drop (p + d) s
  pub other : past_names k (drop q t) ≡ drop (q + d) t

pub passing_none : (s : List ℕ) (p : ℕ) (t : List ℕ) (q : ℕ) → Passing s p t q 0 0
unfolding names_in past_names
passing_none s p t q = record { names = refl; rest = rw add-zero; other = rw add-zero }

pub passing_more : (s : List ℕ) (p : ℕ) (t : List ℕ) (q n d k : ℕ) → Passing s p t q d k → AlikeFor s p t q n → d < n → d + 1 + get_or s (p + d) 0 ≤ n
    → Passing s p t q (d + 1 + get_or s (p + d) 0) (k + 1)
unfolding first_name past_name
passing_more s p t q n d k w u h m =
    let l : ℕ = get_or s (p + d) 0 in
    let room = u.first in
    let here : drop (p + d) s ≡ l ∷ drop (p + d + 1) s = drop_here s (p + d) (omega arith) in
    let left : (x : List ℕ) (i : ℕ) → drop d (take n (drop i x)) ≡ take (n - d) (drop (i + d) x) = λ x i. drop-take d n (drop i x) ∙ rw drop-drop in
    let alike : take (n - d) (l ∷ drop (p + d + 1) s) ≡ take (n - d) (drop (q + d) t) = rw (← here) (sym (left s p) ∙ ap (drop d) u.alike ∙ left t q) in
    let both = name-alike (n - d) l (drop (p + d + 1) s) (drop (q + d) t) alike (omega arith) in
    let e : (i : ℕ) → i + d + 1 + l ≡ i + (d + 1 + l) = λ i. omega arith in
    record {
      names = rw (add-one, names_more k (drop p s), names_more k (drop q t), w.names, w.rest, w.other, here, both.0);
      rest = rw (add-one, past_more k (drop p s), w.rest, here) (drop-drop l (p + d + 1) s ∙ rw (e p));
      other = rw (add-one, past_more k (drop q t), w.other) (both.1 ∙ rw (drop-drop 1 (q + d) t, drop-drop l (q + d + 1) t, e q));
    }

pub passed : (s : List ℕ) (p : ℕ) (t : List ℕ) (q n d k most : ℕ) → Passing s p t q d k → AlikeFor s p t q n → d ≤ n → k ≤ most → PassedIn s p t q most record { count = k; size = d }
passed s p t q n d k most w u h m =
    let a = u.first in
    let b = u.second in
    record { few = m; first = omega arith; second = omega arith; names = w.names; rest = w.rest; other = w.other }

-- What stands alike in front decides nothing.
begins-front : {A : Type 0} (r : A → A → Bool) → ((x : A) → r x x ≡ true) → (xs ys zs : List A) → begins r (xs ++ ys) (xs ++ zs) ≡ begins r ys zs
unfolding begins ◌and◌
begins-front r f [] ys zs = refl
begins-front r f (x ∷ xs) ys zs = rw (f x) (begins-front r f xs ys zs)

pub covers-passed : (a : List ℕ) (p : ℕ) (b : List ℕ) (q m n : ℕ) (r : Passed) → PassedIn a p b q m r → m ≤ n
    → covers (names_in m (drop p a)) (names_in n (drop q b))
    ≡ covers (names_in (m - r.count) (take (length a - (p + r.size)) (drop (p + r.size) a))) (names_in (n - r.count) (take (length b - (q + r.size)) (drop (q + r.size) b)))
unfolding covers
covers-passed a p b q m n r w h =
    let few = w.few in
    rw (names_split r.count m (drop p a) few, names_split r.count n (drop q b) (omega arith), w.names, w.rest, w.other, rest-is a (p + r.size), rest-is b (q + r.size))
    (begins-front same same_refl (names_in r.count (drop q b)) (names_in (m - r.count) (drop (p + r.size) a)) (names_in (n - r.count) (drop (q + r.size) b)))
