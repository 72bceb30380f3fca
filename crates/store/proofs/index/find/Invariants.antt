use Rattle.store.specs.code.Index.{rank, rank_behind, table_at}
use Rattle.names.specs.Key.{names_in}
use lib.ListN.{drop}
use Prim.Native.Nat.{◌-◌, ◌≤◌}
use Rattle.store.proofs.index.find.Given as goal

abbrev pub invariant-loop-lo : goal.invariant-loop-lo
invariant-loop-lo l = (l.lo ≤ rank (names_in l.k (drop l.p l.key)) (table_at l.numbers l.bytes l.index l.n)) × (rank_behind (names_in l.k (drop l.p l.key)) (table_at l.numbers l.bytes l.index l.n) ≤ l.hi) × (l.hi ≤ l.n)

abbrev pub decreases-loop-lo : goal.decreases-loop-lo
decreases-loop-lo l = l.hi - l.lo
