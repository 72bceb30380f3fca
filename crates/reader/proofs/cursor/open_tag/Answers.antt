use Rattle.reader.proofs.Steps.{open_twice, open_unended, open_here}
use Rattle.reader.proofs.cursor.open_tag.Goals as goal

pub returns-in_default : goal.returns-in_default
returns-in_default c = open_twice _ _ _ _ c.requires.name_end _ c.in_default.ensures _ c.broken_tag.ensures

pub returns-in_default-tag_end : goal.returns-in_default-tag_end
returns-in_default-tag_end c =
    open_unended _ _ _ _ c.requires.name_end _ c.row_here-element.ensures.0 _ c.in-Some.ensures _ c.tag_end.ensures.result_value _ c.in_default-tag_end.is c.broken_tag-in_default-tag_end.ensures

pub returns : goal.returns
returns c =
    open_here _ _ _ _ c.requires.name_end _ c.row_here-element.ensures.0 _ c.in-Some.ensures _ c.tag_end.ensures.result_value c.tag_end.ensures.end_within _ c.in-Some-tag_end.is _ c.from.ensures
