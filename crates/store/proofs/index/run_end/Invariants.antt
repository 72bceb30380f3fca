use Rattle.store.specs.code.Index.{covered_run, table_at}
use Rattle.names.specs.Key.{names_in}
use lib.ListN.{drop}
use mathlib.Core.Path.{◌≡◌}
use Prim.Native.Nat.{ℕ, ◌+◌}
use Rattle.store.proofs.index.run_end.Given as goal

abbrev pub invariant-loop-q : goal.invariant-loop-q
invariant-loop-q l =
    let run : ℕ → ℕ = λ i. covered_run (names_in l.k (drop l.p l.key)) (drop i (table_at l.numbers l.bytes l.index l.n)) in
    l.f + run l.f ≡ l.q + run l.q
