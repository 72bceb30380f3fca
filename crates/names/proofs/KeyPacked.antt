-- A key's packed names: read back whole, joined, and of what length.
use mathlib.Core.Path.{◌≡◌, refl, ap}
use mathlib.Core.Bool.{Bool, true, false}
use mathlib.Core.List.{List, [], ◌∷◌, ◌++◌, append_assoc}
use mathlib.Core.Option.{Option, none, some}
use Prim.Native.Nat.{ℕ, zero, suc, ◌*◌, ◌≤◌}
use native.Mathlib.Omega.{arith}
use lib.Dec.{leb}
use lib.ListN.{length, take, drop, length-append, take-append-drop}
use lib.Seq.{take-append_seam, drop-append_seam, length-take-le}
use borrow.Author.Tests.{le-leb, leb-true}
use Rattle.names.specs.Bytes.{all}
use Rattle.names.specs.Name.{name_most}
use Rattle.names.specs.Pick.{pick, ◌and◌}
use Rattle.names.specs.Key.{Key, Name, packed, names_in}
use Rattle.names.specs.code.HeldKey.{KeyRead, name_before, read_key}
use Rattle.names.proofs.Tests.{and_l, and_r, and_i}

-- Each name fits its slot.
unfoldable pub fits : Name → Bool
fits n = leb (length n) name_most

pub packed-append : (j k : Key) → packed (j ++ k) ≡ packed j ++ packed k
unfolding packed
packed-append [] k = refl
packed-append (n ∷ j) k = rw (packed-append j k, append_assoc)

pub names-packed : (k : Key) (t : List ℕ) → names_in (length k) (packed k ++ t) ≡ k
unfolding names_in packed
names-packed [] t = refl
names-packed (n ∷ k) t = rw (append_assoc n (packed k) t, take-append_seam, drop-append_seam, names-packed k t)

pub packed-length : (k : Key) → all fits k ≡ true → length (packed k) ≤ 17 * length k
unfolding packed all fits
packed-length [] e = omega arith
packed-length (n ∷ k) e =
    let h : length n ≤ name_most = leb-true _ _ (and_l _ _ e) in
    let i : length (packed k) ≤ 17 * length k = packed-length k (and_r (fits n) _ e) in
    rw length-append (omega arith)

pub read-packed : (k : Key) (t : List ℕ) → all fits k ≡ true → read_key (length k) (packed k ++ t) ≡ some record { key = k; rest = t }
unfolding read_key packed all fits pick name_before
read-packed [] t e = refl
read-packed (n ∷ k) t e =
    let h : (leb (length n) name_most and leb (length n) (length (n ++ (packed k ++ t)))) ≡ true =
    and_i _ _ (and_l _ _ e) (le-leb (length n) (length (n ++ (packed k ++ t))) (rw length-append (omega arith))) in
    rw (append_assoc n (packed k) t, h, take-append_seam, drop-append_seam, read-packed k t (and_r (fits n) _ e))

-- What was read is what stands there: the names' bytes, as many names as were asked for, each fitting its slot.
pub packed-read : (n : ℕ) (s : List ℕ) (r : KeyRead) → read_key n s ≡ some r → (packed r.key ++ r.rest ≡ s) × (length r.key ≡ n) × (all fits r.key ≡ true)
unfolding read_key packed all fits pick name_before
packed-read zero s r e = let q : r ≡ record { key = []; rest = s } = cc in rw q (refl, refl, refl)
packed-read (suc n) [] r e = let z : ◌≡◌ {A = ℕ} 0 1 = cc in absurd (omega arith)
packed-read (suc n) (l ∷ s) r e = go (leb l name_most and leb l (length s)) refl (read_key n (drop l s)) (packed-read n (drop l s)) e
  where
    go : (b : Bool) → (leb l name_most and leb l (length s)) ≡ b → (o : Option KeyRead)
        → ((x : KeyRead) → o ≡ some x → (packed x.key ++ x.rest ≡ drop l s) × (length x.key ≡ n) × (all fits x.key ≡ true))
        → pick b (name_before (take l s) o) none ≡ some r → (packed r.key ++ r.rest ≡ l ∷ s) × (length r.key ≡ suc n) × (all fits r.key ≡ true)
    go false t o ih e = let z : ◌≡◌ {A = ℕ} 0 1 = cc in absurd (omega arith)
    go true t none ih e = let z : ◌≡◌ {A = ℕ} 0 1 = cc in absurd (omega arith)
    go true t (some x) ih e =
        let w = ih x refl in
        let q : r ≡ record { key = take l s ∷ x.key; rest = x.rest } = cc in
        let m : length (take l s) ≡ l = length-take-le l s (leb-true l (length s) (and_r (leb l name_most) _ t)) in
        rw q (rw (m, append_assoc, w.0, take-append-drop), ap suc w.1, and_i _ _ (rw m (and_l _ _ t)) w.2)

pub names-read : (n : ℕ) (s : List ℕ) (r : KeyRead) → read_key n s ≡ some r → names_in n s ≡ r.key
names-read n s r e = let w = packed-read n s r e in rw (← w.0, ← w.1) (names-packed r.key r.rest)
