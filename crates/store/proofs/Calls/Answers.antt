-- What an accepted answer went through.
use mathlib.Core.Path.{◌≡◌, refl}
use mathlib.Core.Bool.{Bool, true, false}
use mathlib.Core.Option.{Option, none, some}
use Prim.Native.Nat.{ℕ}
use native.Mathlib.Omega.{arith}
use Rattle.store.specs.Answer.{Answer, refused, accepted, ◌>>=◌, ◌>>◌, unless, present}

pub refused-accepted : {A : Type 0} (n : ℕ) (a : A) → refused n ≡ accepted a → ⊥
refused-accepted n a e = let z : ◌≡◌ {A = ℕ} 0 1 = cc in omega arith

pub accepted-same : {A : Type 0} {a b : A} → accepted a ≡ accepted b → a ≡ b
accepted-same e = cc

-- One step and the next.
pub bind_accepted : {A B : Type 0} (x : Answer A) (f : A → Answer B) (b : B) → (x >>= f) ≡ accepted b → (a : A) × (x ≡ accepted a) × (f a ≡ accepted b)
unfolding ◌>>=◌
bind_accepted (refused n) f b e = absurd (refused-accepted n b e)
bind_accepted (accepted a) f b e = (a, refl, e)

-- A test that was passed.
pub unless-accepted : (t : Bool) (n : ℕ) (u : Unit {0}) → unless t n ≡ accepted u → t ≡ true
unfolding unless
unless-accepted true n u e = refl
unless-accepted false n u e = absurd (refused-accepted n u e)

pub then_accepted : {A : Type 0} (t : Bool) (n : ℕ) (r : Answer A) (a : A) → (unless t n >> r) ≡ accepted a → (t ≡ true) × (r ≡ accepted a)
unfolding unless ◌>>◌ ◌>>=◌
then_accepted true n r a e = (refl, e)
then_accepted false n r a e = absurd (refused-accepted n a e)

-- Two answers of which the first is not looked at.
pub both-accepted : {A B : Type 0} (x : Answer A) (r : Answer B) (b : B) → (x >> r) ≡ accepted b → (a : A) × (x ≡ accepted a) × (r ≡ accepted b)
unfolding ◌>>◌
both-accepted x r b e = bind_accepted x (λ _. r) b e

-- Something that was there.
pub present-accepted : {A : Type 0} (o : Option A) (n : ℕ) (a : A) → present o n ≡ accepted a → o ≡ some a
unfolding present
present-accepted none n a e = absurd (refused-accepted n a e)
present-accepted (some b) n a e = cc
