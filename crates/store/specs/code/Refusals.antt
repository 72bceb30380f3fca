-- The refusals by their numbers in document 01's table, and what the code's results say: this paper's number and values for every case.
use Rattle.std.specs.Prelude.{ℕ, Result, Ok, Err}
use Rattle.store.specs.Answer.{Answer, refused, accepted}
use Rattle.store.specs.declared.answer.Answer.{Answer as Answered}
use Rattle.store.specs.declared.answer.Refusal.{Refusal}
use Rattle.store.specs.declared.answer.Refusal.TheVariants.{BufferLength, NotValid, TooLong, WrittenForm, Element, Attribute, Value, OtherStudy, Series, Word, AlreadyLive, NotLive, Limit, ShortOutput, NotLast, MixedItems}

abbrev pub number_of : Refusal → ℕ
number_of BufferLength = 1
number_of NotValid = 2
number_of TooLong = 3
number_of WrittenForm = 4
number_of Element = 5
number_of Attribute = 6
number_of Value = 7
number_of OtherStudy = 8
number_of Series = 9
number_of Word = 10
number_of AlreadyLive = 11
number_of NotLive = 12
number_of Limit = 13
number_of ShortOutput = 14
number_of NotLast = 15
number_of MixedItems = 16

-- What a judge's result says.
abbrev pub said : {A : Type 0} → Result A Refusal → Answer A
said (Ok a) = accepted a
said (Err r) = refused (number_of r)

-- And as a call's answer: the count, or the number.
abbrev pub answer_of : Result ℕ Refusal → Answered
answer_of (Ok n) = record { refusal = 0; count = n }
answer_of (Err r) = record { refusal = number_of r; count = 0 }
