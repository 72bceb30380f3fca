-- How far a scan went, as the code answers.
use Rattle.std.specs.Prelude.{◌≡◌, Bool, List, ℕ, ◌-◌, ◌≤◌, take, drop, length}
use Rattle.names.specs.Scan.{front, after}

-- From `at` on, r is the place behind the bytes of s that pass p.
pub record Scanned (p : ℕ → Bool) (s : List ℕ) (at r : ℕ) : Type 0 where
  pub left : drop r s ≡ after p (drop at s)
  pub passed : take (r - at) (drop at s) ≡ front p (drop at s)
  pub low : at ≤ r
  pub high : r ≤ length s
