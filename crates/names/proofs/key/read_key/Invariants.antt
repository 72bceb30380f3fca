use Rattle.std.proofs.Common.{◌≡◌, ◌≤◌, ◌-◌, length, drop, replicate}
use Rattle.names.specs.Key.{names_used}
use Rattle.names.specs.code.HeldKey.{read_key, held_from}
use Rattle.names.proofs.KeyReads.{behind}
use Rattle.names.proofs.key.read_key.Given as goal

abbrev pub invariant-loop-i : goal.invariant-loop-i
invariant-loop-i l = (l.e ≤ length l.s) × (length l.names ≡ 128) × (length l.lens ≡ 8) × (drop l.i l.lens ≡ replicate (8 - l.i) 0) × (read_key (names_used l.depth) (drop l.at l.s) ≡ behind (held_from l.i 0 l.names l.lens) (read_key (names_used l.depth - l.i) (drop l.e l.s)))
