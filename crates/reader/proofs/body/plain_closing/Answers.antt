use Rattle.reader.proofs.ContentLaws.{plainly_within, plainly_here}
use Rattle.reader.proofs.body.plain_closing.Goals as goal

pub after_byte-requires-2 : goal.after_byte-requires-2
after_byte-requires-2 c = plainly_within _ _ _ _ c.in_ok-x.ensures _ c.begins_at.ensures c.if-not-begins_at.false

pub returns : goal.returns
returns c = plainly_here _ _ _ _ c.in_ok-x.ensures _ c.begins_at.ensures c.if-not-begins_at.false _ c.after_byte-2.ensures
