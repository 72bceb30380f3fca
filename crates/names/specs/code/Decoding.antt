-- A decoded value in a buffer, as the decoder answers.
use Rattle.std.specs.Prelude.{List, ℕ, ◌≤◌, leb, length, take, Some, None, Result, Ok, Err}
use Rattle.std.specs.Prelude as code
use Rattle.std.proofs.Math.Option.{Option, none, some}
use Rattle.names.specs.Pick.{pick}
use Rattle.names.specs.declared.text.DecodeError.{DecodeError}
use Rattle.names.specs.declared.text.DecodeError.TheVariants.{TooLong, Broken}
use Rattle.names.specs.Text.{Written}

-- The code's answers. A piece by its byte and the length of its text:
abbrev pub piece_of : Option Written → code.Option (ℕ × ℕ)
piece_of none = None
piece_of (some w) = Some (w.byte, length w.text)

-- A decoded value in a buffer with this much room: what it holds, or a refusal by its number: "4 written form broken", or "7 value not of its form", which
-- is too long.
pub data Fitted : Type 0 where
  holds : List ℕ → Fitted
  refuses : ℕ → Fitted

abbrev pub broken : Fitted
broken = refuses 4

abbrev pub too_long : Fitted
too_long = refuses 7

unfoldable pub fitted : ℕ → Option (List ℕ) → Fitted
fitted room none = broken
fitted room (some v) = pick (leb (length v) room) (holds v) too_long

-- The decoder's answer by its cases, with this paper's number and value: what stands in the buffer that it leaves, 7 or 4.
abbrev pub decoded_in : List ℕ → Result ℕ DecodeError → Fitted
decoded_in out (Ok n) = holds (take n out)
decoded_in out (Err TooLong) = too_long
decoded_in out (Err Broken) = broken

-- The length that it gives lies within the buffer.
abbrev pub DecodesWithin : ℕ → Result ℕ DecodeError → Type 0
DecodesWithin room (Ok n) = n ≤ room
DecodesWithin room (Err e) = Unit {0}
