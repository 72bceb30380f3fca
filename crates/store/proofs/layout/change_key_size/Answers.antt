use Rattle.std.proofs.Common.{arith}
use Rattle.std.proofs.lemmas.Bool.Decides.{nat_tests}
use Rattle.names.specs.Pick.{◌and◌}
use Rattle.std.proofs.Common.{length-take, length-drop}
use Rattle.store.specs.code.Entry.{change_fits}
use Rattle.store.proofs.Layouts.EntryLaws.{change_entry}
use Rattle.store.proofs.layout.change_key_size.Goals as goal

pub returns-in_err-s : goal.returns-in_err-s
unfolding change_fits ◌and◌
returns-in_err-s c = rw c.from_residual.ensures (let h = c.in_err-s.ensures.lookup in grind (arith, nat_tests, length-take, length-drop))

pub returns-then-matches-2 : goal.returns-then-matches-2
returns-then-matches-2 c =
    let h = c.in_ok-s.ensures.lookup.0 in
    change_entry _ _ _ _ _ c.requires.bytes_len _ _ (h.0, h.1) h.2 (grind arith) (grind arith) (grind arith) (grind arith) c.entry_key_size.ensures

pub returns-else-matches : goal.returns-else-matches
unfolding change_fits ◌and◌
returns-else-matches c = grind (arith, nat_tests)
