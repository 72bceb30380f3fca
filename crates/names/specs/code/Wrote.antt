-- A text written into a buffer, as the writer answers.
use Rattle.std.specs.Prelude.{◌≡◌, List, ℕ, ◌+◌, ◌≤◌, length}
use Rattle.names.specs.Overwrite.{overwrite}

-- out was d and now holds s from n on; r is the place behind it.
pub record Wrote (d : List ℕ) (n : ℕ) (s : List ℕ) (out : List ℕ) (r : ℕ) : Type 0 where
  pub text : out ≡ overwrite d n s
  pub next : r ≡ n + length s
  pub room : n + length s ≤ length d
