use Rattle.reader.proofs.TellLaws.{held-long, held_printable, held_fits}
use borrow.Author.Rules.{rules}
use Rattle.reader.proofs.tell.body_fits.Goals as goal

pub null_or_formed-requires-in-Some : goal.null_or_formed-requires-in-Some
null_or_formed-requires-in-Some c = record { classes = search rules; v_value = held_printable _ _ _ _ _ c.as_written.ensures c.if-as_written.false _ _ c.in-Some.ensures c.requires.c_value }

pub returns-in-Some : goal.returns-in-Some
returns-in-Some c = held_fits _ _ _ _ _ c.as_written.ensures c.if-as_written.false _ _ c.in-Some.ensures _ _ c.null_or_formed-in-Some.ensures

pub returns-in-None : goal.returns-in-None
returns-in-None c = held-long _ _ _ _ _ c.as_written.ensures c.if-as_written.false c.decode_value.new.out _ c.in-None.ensures
