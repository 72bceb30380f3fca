-- What is left of a lent slice, of bytes or of numbers, after a part of it was written.
use Rattle.std.specs.Prelude.{List, ◌++◌, ℕ, ◌+◌, take, drop, length}

-- d with s written over it from n on.
unfoldable pub overwrite : List ℕ → ℕ → List ℕ → List ℕ
overwrite d n s = take n d ++ s ++ drop (n + length s) d
