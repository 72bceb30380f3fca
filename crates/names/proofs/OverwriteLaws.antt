-- Writing over a part of a lent slice: one write after another is one write of the joined text, and what lies apart from it stays.
use mathlib.Core.Path.{◌≡◌, refl, ap, sym, ◌∙◌}
use mathlib.Core.List.{List, [], ◌∷◌, ◌++◌, append_assoc}
use Prim.Native.Nat.{ℕ, ◌+◌, ◌-◌, ◌≤◌, ◌<◌}
use native.Mathlib.Nat.{le_antisymm}
use native.Mathlib.Numerals.{add-one, add-two}
use native.Mathlib.Omega.{arith}
use lib.ListN.{length, get_or, take, drop, set, replicate, length-append, length-drop, length-replicate}
use lib.Seq.{take_at, drop_at, take-append-le, drop-append-le, take-take, drop-drop, length-take-le, drop-append-add, take_all, sets-eq, paste, paste-zero, paste-suc, length-paste}
use borrow.Rule.Slice.PartMut.{put_mid}
use Rattle.names.specs.Overwrite.{overwrite}
use Rattle.names.specs.code.Wrote.{Wrote}
use Rattle.names.proofs.Walk.{drop-take}

-- What stands before the written text and the text itself.
head_length : (d : List ℕ) (n : ℕ) (s : List ℕ) → n ≤ length d → length (take n d ++ s) ≡ n + length s
head_length d n s h = rw (length-append, length-take-le n d h)

pub overwrite-length : (d : List ℕ) (n : ℕ) (s : List ℕ) → n + length s ≤ length d → length (overwrite d n s) ≡ length d
unfolding overwrite
overwrite-length d n s h = let k : n ≤ length d = omega arith in rw (length-append, head_length d n s k, length-drop) (omega arith)

pub overwrite-overwrite : (d : List ℕ) (n : ℕ) (s t : List ℕ) → n ≤ length d → overwrite (overwrite d n s) (n + length s) t ≡ overwrite d n (s ++ t)
unfolding overwrite
overwrite-overwrite d n s t h =
    let p : List ℕ = take n d ++ s in
    let q : List ℕ = drop (n + length s) d in
    let e : length p ≡ n + length s = head_length d n s h in
    let tk : take (n + length s) (p ++ q) ≡ p = take_at p q (n + length s) e in
    let m : n + length s + length t ≡ n + length (s ++ t) = rw length-append (omega arith) in
    let dr : drop (n + length s + length t) (p ++ q) ≡ drop (n + length (s ++ t)) d =
    ap (λ (k : ℕ). drop (k + length t) (p ++ q)) (sym e)
    ∙ drop-append-add p q (length t)
    ∙ drop-drop (length t) (n + length s) d
    ∙ ap (λ (k : ℕ). drop k d) m in
    ap (λ (x : List ℕ). x ++ t ++ drop (n + length s + length t) (p ++ q)) tk
    ∙ ap (λ (x : List ℕ). p ++ t ++ x) dr
    ∙ ap (λ (x : List ℕ). x ++ drop (n + length (s ++ t)) d) (append_assoc (take n d) s t)

module _ (d : List ℕ) (n : ℕ) (s : List ℕ) (room : n + length s ≤ length d) where
  -- The written text itself,
  pub overwrite-text : take (length s) (drop n (overwrite d n s)) ≡ s
  unfolding overwrite
  overwrite-text =
      let k : n ≤ length d = omega arith in
      let e : length (take n d) ≡ n = length-take-le n d k in
      rw (append_assoc, drop_at (take n d) (s ++ drop (n + length s) d) n e) (take_at s (drop (n + length s) d) (length s) refl)

  -- what stands before it,
  pub overwrite-before : (a m : ℕ) → a + m ≤ n → take m (drop a (overwrite d n s)) ≡ take m (drop a d)
  unfolding overwrite
  overwrite-before a m h =
      let k : n ≤ length d = omega arith in
      let e : length (take n d) ≡ n = length-take-le n d k in
      let f : a ≤ length (take n d) = omega arith in
      let g : m ≤ length (drop a (take n d)) = rw length-drop (omega arith) in
      let j : m ≤ n - a = omega arith in
      rw (append_assoc, drop-append-le a (take n d) (s ++ drop (n + length s) d) f, take-append-le m (drop a (take n d)) (s ++ drop (n + length s) d) g, drop-take a n d)
      (take-take m (n - a) (drop a d) j)

  -- and what stands behind it.
  pub overwrite-behind : (a : ℕ) → n + length s ≤ a → drop a (overwrite d n s) ≡ drop a d
  unfolding overwrite
  overwrite-behind a h =
      let k : n ≤ length d = omega arith in
      let e : length (take n d ++ s) ≡ n + length s = head_length d n s k in
      let j : length (take n d ++ s) + (a - (n + length s)) ≡ a = omega arith in
      let m : n + length s + (a - (n + length s)) ≡ a = omega arith in
      ap (λ (x : ℕ). drop x (take n d ++ s ++ drop (n + length s) d)) (sym j)
      ∙ drop-append-add (take n d ++ s) (drop (n + length s) d) (a - (n + length s))
      ∙ drop-drop (a - (n + length s)) (n + length s) d
      ∙ ap (λ (x : ℕ). drop x d) m

-- The loop that writes one element after another: x after i of them.
pub record Writing (d : List ℕ) (n : ℕ) (s : List ℕ) (x : List ℕ) (i : ℕ) : Type 0 where
  pub so_far : x ≡ paste d n s i
  pub within : i ≤ length s
  pub size : length x ≡ length d

pub writing_none : (d : List ℕ) (n : ℕ) (s : List ℕ) → Writing d n s d 0
writing_none d n s = record { so_far = paste-zero d n s; within = omega arith; size = refl }

pub writing_more : (d : List ℕ) (n : ℕ) (s x : List ℕ) (i : ℕ) → n + length s ≤ length d → Writing d n s x i → i < length s → Writing d n s (set x (n + i) (get_or s i 0)) (i + 1)
writing_more d n s x i room w h =
    let inside : n + i < length d = omega arith in
    let e : set x (n + i) (get_or s i 0) ≡ paste d n s (i + 1) = rw (w.so_far, add-one) (paste-suc d n s i 0 inside h) in
    record { so_far = e; within = omega arith; size = rw e (length-paste d n s (i + 1) (omega arith) (omega arith)) }

pub writing_all : (d : List ℕ) (n : ℕ) (s x : List ℕ) (i : ℕ) → n + length s ≤ length d → Writing d n s x i → length s ≤ i → Wrote d n s x (n + length s)
unfolding overwrite
writing_all d n s x i room w h =
    let e : i ≡ length s = le_antisymm w.within h in
    record { text = w.so_far ∙ rw (e, take_all (length s) s (omega arith)); next = refl; room = room }

-- What a write to a part of a slice leaves.
pub part-written : (d s : List ℕ) (a k : ℕ) → length s ≡ k → put_mid a k d s ≡ overwrite d a s
unfolding overwrite
part-written d s a k e = rw (← e, drop-drop (length s) a d) (sym (append_assoc (take a d) s (drop (a + length s) d)))

-- The same of a part that is filled with one value.
pub part-filled : (d : List ℕ) (a e v : ℕ) (x : List ℕ) → a ≤ e → e ≤ length d → x ≡ replicate (length (take (e - a) (drop a d))) v
    → put_mid a (e - a) d x ≡ overwrite d a (replicate (e - a) v)
part-filled d a e v x h k f =
    let n : length (take (e - a) (drop a d)) ≡ e - a = length-take-le (e - a) (drop a d) (rw length-drop (omega arith)) in
    rw (f, n) (part-written d (replicate (e - a) v) a (e - a) (length-replicate (e - a) v))

-- One write after another.
pub wrote_then : (d : List ℕ) (n : ℕ) (s t x y : List ℕ) (a b : ℕ) → Wrote d n s x a → Wrote x a t y b → Wrote d n (s ++ t) y b
wrote_then d n s t x y a b u v =
    let r = u.room in
    let len : length x ≡ length d = rw u.text (overwrite-length d n s r) in
    let room2 = v.room in
    let a-is = u.next in
    let b-is = v.next in
    record {
      text = v.text ∙ rw (u.text, u.next) (overwrite-overwrite d n s t (omega arith));
      next = rw length-append (omega arith);
      room = rw length-append (omega arith);
    }

infixl 50 ◌▷◌
pub ◌▷◌ : {d : List ℕ} {n : ℕ} {s t x y : List ℕ} {a b : ℕ} → Wrote d n s x a → Wrote x a t y b → Wrote d n (s ++ t) y b
◌▷◌ {d} {n} {s} {t} {x} {y} {a} {b} u v = wrote_then d n s t x y a b u v

-- A row of three, as three stores leave it.
pub row3 : (l : List ℕ) (p a b c : ℕ) → p + 3 ≤ length l → set (set (set l p a) (p + 1) b) (p + 2) c ≡ overwrite l p (a ∷ b ∷ c ∷ [])
unfolding overwrite
row3 l p a b c h = rw (add-one, add-two) (sets-eq (a ∷ b ∷ c ∷ []) l p h)
