-- A refusal is named by a number of document 01's table, so never by 0.
use mathlib.Core.Path.{◌≡◌}
use mathlib.Core.Bool.{Bool, true, false}
use mathlib.Core.Option.{Option, none, some}
use Prim.Native.Nat.{ℕ, ◌<◌}
use native.Mathlib.Omega.{arith}
use Rattle.store.specs.Answer.{Answer, refused, accepted, ◌>>=◌, ◌>>◌, unless, present}

-- What is refused is refused with a number above 0.
pub data Named {A : Type 0} : Answer A → Type 0 where
  named : {n : ℕ} → 0 < n → Named (refused n)
  taken : {a : A} → Named (accepted a)

pub named_bind : {A B : Type 0} (x : Answer A) (f : A → Answer B) → Named x → ((a : A) → Named (f a)) → Named (x >>= f)
unfolding ◌>>=◌
named_bind (refused n) f (named h) g = named h
named_bind (accepted a) f taken g = g a

pub named_then : {A B : Type 0} (x : Answer A) (r : Answer B) → Named x → Named r → Named (x >> r)
unfolding ◌>>◌
named_then x r p q = named_bind x (λ _. r) p (λ _. q)

pub named-unless : (t : Bool) (n : ℕ) → 0 < n → Named (unless t n)
unfolding unless
named-unless true n h = taken
named-unless false n h = named h

pub named-present : {A : Type 0} (o : Option A) (n : ℕ) → 0 < n → Named (present o n)
unfolding present
named-present none n h = named h
named-present (some a) n h = taken

pub not_zero : {A : Type 0} (x : Answer A) (n : ℕ) → Named x → x ≡ refused n → 0 < n
not_zero (refused m) n (named h) e = let q : m ≡ n = cc in rw (← q) h
not_zero (accepted a) n taken e = let z : ◌≡◌ {A = ℕ} 0 1 = cc in absurd (lit_absurd z)
  where
    lit_absurd : ◌≡◌ {A = ℕ} 0 1 → ⊥
    lit_absurd z = omega arith
