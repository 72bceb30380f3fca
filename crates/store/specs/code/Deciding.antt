-- The words and kinds by their numbers, and what the code's decision says: this paper's number and values for every case of it.
use Rattle.std.specs.Prelude.{ℕ, Option, Some, None, Result, Ok, Err, eqb}
use Rattle.names.specs.Pick.{pick}
use Rattle.store.specs.Change.{Kind, make, write, end}
use Rattle.store.specs.Word.{Word, insert, update, upsert, remove, context, Decision, refuse, nothing, add}
use Rattle.store.specs.code.Refusals.{number_of}
use Rattle.store.specs.declared.answer.Refusal.{Refusal}
use Rattle.store.specs.declared.decide.Kind.{Kind as Decided}
use Rattle.store.specs.declared.decide.Kind.TheVariants.{Make, Write, End}

abbrev pub kind_said : Decided → Kind
kind_said Make = make
kind_said Write = write
kind_said End = end

abbrev pub decision_of : Result (Option Decided) Refusal → Decision
decision_of (Ok (Some k)) = add (kind_said k)
decision_of (Ok None) = nothing
decision_of (Err r) = refuse (number_of r)

unfoldable pub word_number : Word → ℕ
word_number insert = 1
word_number update = 2
word_number upsert = 3
word_number remove = 4
word_number context = 5

unfoldable pub word_numbered : ℕ → Word
word_numbered n = pick (eqb n 1) insert (pick (eqb n 2) update (pick (eqb n 3) upsert (pick (eqb n 4) remove context)))
