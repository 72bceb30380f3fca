-- A call's answer as the code gives it, with the buffers that it leaves.
use Rattle.std.specs.Prelude.{List, ℕ}
use Rattle.store.specs.Calls.{Outcome}
use Rattle.store.specs.Image.{Buffers}
use Rattle.store.specs.declared.answer.Answer.{Answer}

abbrev pub buffers : List ℕ → List ℕ → Buffers
buffers ns bs = record { numbers = ns; bytes = bs }

abbrev pub outcome_of : Answer → List ℕ → List ℕ → Outcome
outcome_of a ns bs = record { refusal = a.refusal; count = a.count; buffers = buffers ns bs }
