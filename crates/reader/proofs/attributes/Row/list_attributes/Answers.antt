use Rattle.reader.proofs.Collect.{first-end, second-end, second-listed}
use Rattle.reader.proofs.attributes.Row.list_attributes.Goals as goal

pub returns-then-none_at : goal.returns-then-none_at
returns-then-none_at c = search first-end

pub returns-then-none_at-2 : goal.returns-then-none_at-2
returns-then-none_at-2 c =
    second-end _ _ _ c.args.self.now.in_table _ c.requires.at_in_bounds c.seek-a.ensures _ c.seek-b.ensures _ c.none_at-2.ensures c.if-none_at-2.true _ c.make_listing-then-none_at-2.ensures

pub list_more-requires : goal.list_more-requires
list_more-requires c = record { listed_to = second-listed _ _ _ c.args.self.now.in_table _ c.requires.at_in_bounds c.seek-a.ensures _ c.seek-b.ensures }
