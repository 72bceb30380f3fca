-- What reading the tags below ODM says, with the buffers that it leaves.
use Rattle.std.specs.Prelude.{◌≡◌, Bool, List, ℕ, suc, length, drop, Result}
use Rattle.store.specs.Answer.{Answer}
use Rattle.store.specs.Change.{Change}
use Rattle.store.specs.code.Pending.{machine_of, added_at, Loaded}
use Rattle.store.specs.declared.answer.Refusal.{Refusal}
use Rattle.store.specs.declared.pending.Pending.{Pending}
use Rattle.reader.specs.Import.{tags, begun}
use Rattle.reader.specs.code.Acting.{headed}
use Rattle.reader.specs.code.Answered.{said_as}

-- The changes of the tags below ODM from a place on.
abbrev pub read_from : List ℕ → List ℕ → List ℕ → ℕ → Bool → Answer (List Change)
read_from ns bs s at snapshot = tags (suc (length (drop at s))) (machine_of ns bs) (headed snapshot) begun (drop at s)

-- They are read to their end or to the first fault.
pub record ReadTo (ns bs s : List ℕ) (at : ℕ) (snapshot : Bool) (ns' bs' : List ℕ) (t' : Pending) (r : Result (Unit {0}) Refusal) : Type 0 where
  pub is : said_as (λ _. added_at ns' bs' t'.changes) r ≡ read_from ns bs s at snapshot
  pub machine : machine_of ns' bs' ≡ machine_of ns bs
  pub loaded : Loaded ns' bs' t'
