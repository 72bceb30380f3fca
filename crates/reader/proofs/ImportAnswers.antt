-- Results as answers, and the white space behind ODM.
use mathlib.Core.Path.{◌≡◌, refl}
use mathlib.Core.List.{List}
use Prim.Native.Nat.{ℕ, ◌≤◌, ◌<◌}
use lib.ListN.{length, drop}
use Rattle.std.specs.Prelude.{Result, Ok, Err}
use Rattle.names.specs.Class.{is_white}
use Rattle.names.specs.code.Scanned.{Scanned}
use Rattle.names.proofs.Walk.{drop_here, drop_past}
use Rattle.store.specs.Answer.{refused, accepted, ◌>>=◌, ◌>>◌, unless}
use Rattle.store.specs.Change.{Change}
use Rattle.store.specs.code.Refusals.{said}
use Rattle.store.specs.declared.answer.Refusal.{Refusal}
use Rattle.reader.specs.Tag.{skip}
use Rattle.reader.specs.Import.{is_nil, at_end}
use Rattle.reader.specs.code.Answered.{said_as}

-- What is accepted goes on.
pub said-on : {A B C : Type 0} (r : Result A Refusal) (f : A → B) (g : B → C) → (said_as f r >>= λ x. accepted (g x)) ≡ said_as (λ a. g (f a)) r
unfolding ◌>>=◌
said-on (Ok a) f g = refl
said-on (Err k) f g = refl

pub said-end : (r : Result (Unit {0}) Refusal) (s : List ℕ) (cs : List Change) → said r ≡ unless (is_nil (skip s)) 4 → said_as (λ _. cs) r ≡ at_end s cs
unfolding at_end ◌>>◌ ◌>>=◌
said-end (Ok u) s cs e = rw (← e)
said-end (Err k) s cs e = rw (← e)

-- "Anything but white space after ODM's close is 4".
module _ (s : List ℕ) (at e : ℕ) (w : Scanned is_white s at e) where
  pub more-follows : e < length s → refused 4 ≡ unless (is_nil (skip (drop at s))) 4
  unfolding skip is_nil unless
  more-follows h = rw (← w.left, drop_here s e h)

  pub white_only : length s ≤ e → accepted tt ≡ unless (is_nil (skip (drop at s))) 4
  unfolding skip is_nil unless
  white_only h = rw (← w.left, drop_past s e h)

pub ruleset behind-odm = (more-follows, white_only)
