use Rattle.reader.proofs.ImportTags.{Underway}
use Rattle.reader.specs.code.Reads.{read_from}
use Rattle.reader.specs.code.ElementNames.{Names}
use Rattle.names.specs.code.ByteClasses.{Classes}
use Rattle.store.specs.code.Pending.{machine_of}
use Prim.Native.Nat.{◌-◌}
use lib.ListN.{length}
use mathlib.Core.Path.{◌≡◌}
use Rattle.reader.proofs.import.read_tags.Given as goal

abbrev pub invariant-tags : goal.invariant-tags
invariant-tags l =
    (Classes l.classes × Names l.names) × (length l.index ≡ length l.initial.index)
    × Underway (read_from l.initial.numbers l.initial.bytes l.s l.initial.cursor.at l.snapshot) (machine_of l.initial.numbers l.initial.bytes) l.s l.snapshot l.numbers l.bytes l.index l.pending l.elements l.key.names l.key.lens l.cursor.at

abbrev pub decreases-tags : goal.decreases-tags
decreases-tags l = length l.s - l.cursor.at
