-- A range of one value, as a loop of stores leaves it.
use mathlib.Core.Path.{◌≡◌, refl, ap, sym, ◌∙◌}
use mathlib.Core.List.{List, [], ◌∷◌, ◌++◌, append_assoc, append-nil}
use Prim.Native.Nat.{ℕ, zero, suc, ◌+◌, ◌-◌, ◌≤◌, ◌<◌}
use native.Mathlib.Numerals.{add-one}
use native.Mathlib.Nat.{le_antisymm}
use native.Mathlib.Omega.{arith}
use lib.ListN.{length, get_or, take, drop, set, replicate, length-append, length-set, length-replicate, take-append-drop}
use lib.Seq.{set_at, drop-cons, length-take-le, append_snoc}
use Rattle.names.specs.Overwrite.{overwrite}

replicate_snoc : (n v : ℕ) → replicate n v ++ (v ∷ []) ≡ replicate (n + 1) v
replicate_snoc n v = rw add-one (go n)
  where
    go : (k : ℕ) → replicate k v ++ (v ∷ []) ≡ replicate (suc k) v
    go zero = refl
    go (suc k) = ap (λ (t : List ℕ). v ∷ t) (go k)

-- What a loop that stores v from a on has made of d, at i.
pub record Filling (d : List ℕ) (a : ℕ) (v : ℕ) (x : List ℕ) (i : ℕ) : Type 0 where
  pub so_far : x ≡ overwrite d a (replicate (i - a) v)
  pub low : a ≤ i
  pub size : length x ≡ length d

pub filling_none : (d : List ℕ) (a v : ℕ) → Filling d a v d a
unfolding overwrite
filling_none d a v =
    let z : a - a ≡ 0 = omega arith in
    let z2 : a + 0 ≡ a = omega arith in
    record { so_far = sym (rw (z, z2, append-nil) (take-append-drop a d)); low = omega arith; size = refl }

pub filling_more : (d : List ℕ) (a v : ℕ) (x : List ℕ) (i e : ℕ) → Filling d a v x i → i < e → e ≤ length d → Filling d a v (set x i v) (i + 1)
unfolding overwrite
filling_more d a v x i e f below room =
    let h : i < length d = omega arith in
    let low = f.low in
    let n : ℕ = i - a in
    let p : List ℕ = take a d ++ replicate n v in
    let pl : length p ≡ i = rw (length-append, length-take-le a d (omega arith), length-replicate) (omega arith) in
    let e1 : a + length (replicate n v) ≡ i = rw length-replicate (omega arith) in
    let e2 : i + 1 - a ≡ n + 1 = omega arith in
    let e3 : a + length (replicate (n + 1) v) ≡ i + 1 = rw length-replicate (omega arith) in
    let was : x ≡ p ++ (get_or d i 0 ∷ drop (i + 1) d) = f.so_far ∙ rw (e1, add-one, drop-cons d i 0 h) in
    let now : set x i v ≡ p ++ (v ∷ drop (i + 1) d) = ap (λ (l : List ℕ). set l i v) was ∙ set_at p (get_or d i 0) (drop (i + 1) d) v i pl in
    let to : p ++ (v ∷ drop (i + 1) d) ≡ take a d ++ replicate (i + 1 - a) v ++ drop (a + length (replicate (i + 1 - a) v)) d =
    rw (e2, e3, ← replicate_snoc, ← append_assoc, append_snoc) in
    record { so_far = now ∙ to; low = omega arith; size = length-set x i v ∙ f.size }

pub filling_all : (d : List ℕ) (a v e : ℕ) (x : List ℕ) (i : ℕ) → Filling d a v x i → i ≤ e → e ≤ i → x ≡ overwrite d a (replicate (e - a) v)
filling_all d a v e x i f h k = let q : i ≡ e = le_antisymm h k in rw (← q) f.so_far

pub ruleset filling = (filling_none, filling_more, filling_all)
