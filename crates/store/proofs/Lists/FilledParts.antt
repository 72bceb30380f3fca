-- Texts filled up with zeros, and writing over one part of several that stand in a row.
use mathlib.Core.Path.{◌≡◌, refl, sym}
use mathlib.Core.List.{List, ◌++◌, append_assoc}
use Prim.Native.Nat.{ℕ, ◌+◌, ◌-◌, ◌≤◌}
use native.Mathlib.Omega.{arith}
use lib.ListN.{length, take, drop, replicate, length-append, length-take, length-drop, length-replicate, replicate-append-replicate}
use borrow.Rule.Slice.PartMut.{put_mid}
use lib.Seq.{drop_at, drop-drop, take-append-le, drop-append-le, take-append_seam, take-append-add, drop-append-add}
use Rattle.names.specs.Overwrite.{overwrite}
use Rattle.store.specs.Image.{padded}
use Rattle.names.proofs.Walk.{drop-replicate}

-- A part that was written in one call.
pub part_written : (d s t : List ℕ) (a k : ℕ) → t ≡ s → length s ≡ k → put_mid a k d t ≡ overwrite d a s
unfolding overwrite
part_written d s t a k e h = rw (e, append_assoc, drop-drop k a d, ← h)

pub part_filled : (d t : List ℕ) (a k v : ℕ) → a + k ≤ length d → t ≡ replicate (length (take k (drop a d))) v → put_mid a k d t ≡ overwrite d a (replicate k v)
part_filled d t a k v h e =
    let n : length (take k (drop a d)) ≡ k = simp (length-take, length-drop) (omega arith) in
    part_written d (replicate k v) t a k (rw n at e) (length-replicate k v)

pub padded-length : (n : ℕ) (s : List ℕ) → length s ≤ n → length (padded n s) ≡ n
unfolding padded
padded-length n s h = rw (length-append, length-replicate {A = ℕ} (n - length s) 0) (omega arith)

pub padded-text : (n : ℕ) (s t : List ℕ) → take (length s) (padded n s ++ t) ≡ s
unfolding padded
padded-text n s t = rw (append_assoc, take-append_seam)

-- More text stands where the zeros were,
pub padded-more : (n : ℕ) (s t : List ℕ) → length (s ++ t) ≤ n → padded n (s ++ t) ≡ overwrite (padded n s) (length s) t
unfolding padded overwrite
padded-more n s t h =
    let l : n - length s - length t ≡ n - length (s ++ t) = rw length-append (omega arith) in
    rw (take-append_seam, drop-append-add s (replicate (n - length s) 0) (length t), drop-replicate, l)

-- and zeros where the text was taken away.
pub padded_cleared : (n : ℕ) (s t : List ℕ) → length (s ++ t) ≤ n → overwrite (padded n (s ++ t)) (length s) (replicate (length t) 0) ≡ padded n s
unfolding padded overwrite
padded_cleared n s t h =
    let z : List ℕ = replicate (n - length (s ++ t)) 0 in
    let k : length t + (n - length (s ++ t)) ≡ n - length s = omega (arith, length-append s t) in
    rw (length-replicate {A = ℕ} (length t) 0, append_assoc s t z, take-append_seam, drop-append-add s (t ++ z) (length t), drop_at t z (length t) refl)
    (rw (append_assoc, replicate-append-replicate, k))

-- Zeros behind a text that is filled up are zeros of the filling.
pub padded-padded : (n k : ℕ) (s t : List ℕ) → length t ≤ k → length s + k ≤ n → padded n (s ++ padded k t) ≡ padded n (s ++ t)
unfolding padded
padded-padded n k s t h l =
    let z : List ℕ = replicate (k - length t) 0 in
    let e : length (s ++ (t ++ z)) ≡ length s + k = rw (length-append, length-append, length-replicate {A = ℕ} (k - length t) 0) (omega arith) in
    let g : k - length t + (n - (length s + k)) ≡ n - length (s ++ t) = rw length-append (omega arith) in
    rw (e, ← append_assoc s t z, append_assoc (s ++ t) z, replicate-append-replicate, g)

-- A write within the first of two parts, and within the second.
overwrite-left : (a b : List ℕ) (n : ℕ) (s : List ℕ) → n + length s ≤ length a → overwrite (a ++ b) n s ≡ overwrite a n s ++ b
unfolding overwrite
overwrite-left a b n s h =
    let k : n ≤ length a = omega arith in
    rw (take-append-le n a b k, drop-append-le (n + length s) a b h, append_assoc (take n a ++ s) (drop (n + length s) a) b)

overwrite-right : (a b : List ℕ) (k n : ℕ) (s : List ℕ) → length a ≡ k → overwrite (a ++ b) (k + n) s ≡ a ++ overwrite b n s
unfolding overwrite
overwrite-right a b k n s h =
    let e : length a + n + length s ≡ length a + (n + length s) = omega arith in
    rw (← h, take-append-add a b n, e, drop-append-add a b (n + length s)) (simp append_assoc)

-- Three parts in a row, as both buffers have them.
module _ (a b c : List ℕ) where
  pub overwrite-second : (k n : ℕ) (s : List ℕ) → length a ≡ k → n + length s ≤ length b → overwrite (a ++ b ++ c) (k + n) s ≡ a ++ overwrite b n s ++ c
  overwrite-second k n s h l = rw (append_assoc a b c, overwrite-right a (b ++ c) k n s h, overwrite-left b c n s l) (sym (append_assoc a (overwrite b n s) c))

  pub overwrite_third : (k n : ℕ) (s : List ℕ) → length (a ++ b) ≡ k → overwrite (a ++ b ++ c) (k + n) s ≡ a ++ b ++ overwrite c n s
  overwrite_third k n s h = overwrite-right (a ++ b) c k n s h
