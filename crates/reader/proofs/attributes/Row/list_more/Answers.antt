use Rattle.reader.proofs.Collect.{fourth_listed, fourth_end}
use Rattle.reader.proofs.attributes.Row.list_more.Goals as goal

pub returns-then-none_at : goal.returns-then-none_at
returns-then-none_at c =
    fourth_end _ _ _ c.args.self.now.in_table c.args.a c.args.b _ _ c.requires.listed_to c.seek-c.ensures c.seek-d.ensures _ c.none_at.ensures c.if-none_at.true _ c.make_listing.ensures

pub list_on-requires : goal.list_on-requires
list_on-requires c = record { listed_to = fourth_listed _ _ _ c.args.self.now.in_table c.args.a c.args.b _ _ c.requires.listed_to c.seek-c.ensures c.seek-d.ensures }
