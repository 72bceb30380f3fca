-- Places within a text, for the loops that walk over it: they fit a machine's number, and what is left becomes less.
use mathlib.Core.Path.{◌≡◌}
use Prim.Native.Nat.{ℕ, ◌+◌, ◌-◌, ◌*◌, ◌^◌, ◌≤◌, ◌<◌}
use native.Mathlib.Omega.{arith}
use mir.Syntax.{w64}
use mir.Val.{Fits}

pub next_fits : {i n : ℕ} → i < n → n * 1 < 2 ^ 63 → Fits w64 (i + 1)
next_fits h l = record { fits = omega arith }

pub next-place-fits : {i n : ℕ} → i < n → n < 2 ^ 64 → Fits w64 (i + 1)
next-place-fits h l = record { fits = omega arith }

pub next-below : {i n : ℕ} → i < n → i + 1 ≤ n
next-below h = omega arith

pub less-left : {i n : ℕ} → i < n → n - (i + 1) < n - i
less-left h = omega arith

pub count_fits : {i k : ℕ} → i < k → Fits w64 k → Fits w64 (i + 1)
count_fits h f = record { fits = omega arith }

pub kept-room : {k n m : ℕ} → k ≤ n → m ≡ n → k ≤ m
kept-room h e = omega arith

pub reach_same : {k n m : ℕ} → k ≤ n → n ≡ m → k ≤ m
reach_same h e = omega arith

-- A stretch of m bytes from p on in a text of n.
pub stretch-below : {m n i : ℕ} (p : ℕ) → m ≤ n - p → i < m → p + i < n
stretch-below p k g = omega arith

pub stretch-fits : {m i : ℕ} (p n : ℕ) → m ≤ n - p → i < m → n * 1 < 2 ^ 63 → Fits w64 (p + i)
stretch-fits p n k g l = record { fits = omega arith }

pub stretch-start : {m n : ℕ} (p : ℕ) → m ≤ n - p → 0 < m → p ≤ n
stretch-start p k g = omega arith

pub below : {i n : ℕ} → i < n → i ≤ n
below h = omega arith
