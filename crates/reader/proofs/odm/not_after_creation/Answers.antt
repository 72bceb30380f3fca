use Rattle.reader.proofs.OdmLaws.{creation_date}
use Rattle.reader.proofs.odm.not_after_creation.Goals as goal

pub returns : goal.returns
returns c = creation_date c.args.s.now c.args.t c.args.h c.requires.odm_read c.requires.head_of c.start_at-created.result c.end_at-created_end.result c.start_at-created.ensures c.end_at-created_end.ensures c.not_later.result c.not_later.ensures
