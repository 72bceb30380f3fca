use Rattle.reader.proofs.EntityLaws.{held-never, held-put}
use Rattle.reader.proofs.entity.put_body.Goals as goal

pub returns-in-Some : goal.returns-in-Some
returns-in-Some c = held-put _ _ _ _ _ c.as_written.ensures c.requires.c_len_bound c.if-as_written.false _ _ c.in-Some.ensures _ _ _ _ c.put_bytes-in-Some.ensures

pub returns-in-None : goal.returns-in-None
returns-in-None c = absurd (held-never _ _ _ _ _ c.as_written.ensures c.requires.c_len_bound c.if-as_written.false c.decode_value.new.out c.in-None.ensures)
