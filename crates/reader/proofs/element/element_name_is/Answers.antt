use Rattle.std.proofs.Common.{rules}
use Rattle.reader.proofs.ExpectedLaws.{name_told}
use Rattle.reader.proofs.element.element_name_is.Goals as goal

pub returns : goal.returns
returns c = name_told _ _ c.requires.element_bound _ c.after_slot.ensures _ c.is_some_and.ensures (λ e p. search rules)
