-- What a judge answers: a refusal by its number in document 01's table, or what was accepted.
use Rattle.std.specs.Prelude.{Bool, true, false, ℕ}
use Rattle.std.proofs.Math.Option.{Option, none, some}

pub data Answer (A : Type 0) : Type 0 where
  refused : ℕ → Answer A
  accepted : A → Answer A

infixl 10 ◌>>=◌
infixl 10 ◌>>◌
-- One step after another; the first refusal stands.
unfoldable pub ◌>>=◌ : {A B : Type 0} → Answer A → (A → Answer B) → Answer B
refused n >>= f = refused n
accepted a >>= f = f a

unfoldable pub ◌>>◌ : {A B : Type 0} → Answer A → Answer B → Answer B
◌>>◌ m r = m >>= λ _. r

-- Refused with n unless the test holds.
unfoldable pub unless : Bool → ℕ → Answer (Unit {0})
unless true n = accepted tt
unless false n = refused n

-- Refused with n where there is nothing.
unfoldable pub present : {A : Type 0} → Option A → ℕ → Answer A
present none n = refused n
present (some a) n = accepted a
