use Rattle.std.proofs.Common.{◌≡◌, ℕ, Bool, ◌≤◌, length, drop}
use Rattle.std.specs.Slice.Iter.{chunks_exact_rest, chunks_exact_size}
use Rattle.reader.specs.code.ByteRun.{Tests, Runs}
use Rattle.reader.proofs.scan.blocks_of.Given as goal

abbrev pub invariant-loop-block : goal.invariant-loop-block
invariant-loop-block g l =
    (goal.iterator-loop-block g).can_next l.block-iterator
    × (goal.iterator-loop-block g).is_finite l.block-iterator
    × (l.at ≤ l.i)
    × (l.i ≤ length l.s)
    × (chunks_exact_rest l.block-iterator ≡ drop l.i l.s)
    × (chunks_exact_size l.block-iterator ≡ 64)
    × ((p : ℕ → Bool) → Tests (goal.F-post g l.test) p → Runs p l.s l.at l.i)
