-- What judging an image says: it is not valid, or it is, the index holds its live entities, and the sizes are those of its changes' keys.
use Rattle.std.specs.Prelude.{◌≡◌, Bool, true, false, Result, Ok, Err, List, ℕ}
use Rattle.std.proofs.Math.Option.{none}
use Rattle.store.specs.Answer.{Answer, refused, accepted}
use Rattle.store.specs.code.Entry.{Sized}
use Rattle.store.specs.Image.{Buffers, machine_in, read_image}
use Rattle.store.specs.code.Index.{Indexed}
use Rattle.store.specs.code.Layout.{change_count}
use Rattle.store.specs.Machine.{Machine}
use Rattle.store.specs.Outcomes.{buffers}
use Rattle.store.specs.code.Refusals.{number_of}
use Rattle.store.specs.code.Withdrawal.{Valid}
use Rattle.store.specs.declared.answer.Refusal.{Refusal}
use Rattle.store.specs.declared.replay.LiveIndex.{LiveIndex}

-- The judge's answer by its cases, with this paper's number and value: the machine that the buffers are the image of, or "2 image not valid".
abbrev pub judged_as : Buffers → Result LiveIndex Refusal → Answer Machine
judged_as b (Ok s) = accepted (machine_in b)
judged_as b (Err r) = refused (number_of r)

-- And what it leaves in the index and the sizes.
pub record ValidIndexed (ns bs index sizes : List ℕ) (n : ℕ) : Type 0 where
  pub valid : Valid ns bs
  pub indexed : Indexed ns bs (change_count ns) index n
  pub sized : Sized ns bs 0 (change_count ns) sizes

abbrev pub Judged : List ℕ → List ℕ → List ℕ → List ℕ → Result LiveIndex Refusal → Type 0
Judged ns bs index sizes (Ok s) = ValidIndexed ns bs index sizes s.entries
Judged ns bs index sizes (Err r) = read_image (buffers ns bs) ≡ none

abbrev pub ValidBy : List ℕ → List ℕ → Bool → Type 0
ValidBy ns bs true = Valid ns bs
ValidBy ns bs false = read_image (buffers ns bs) ≡ none
