use Rattle.reader.proofs.Steps.{behind_open, behind_close, behind_none}
use Rattle.std.proofs.Common.{◌∙◌, sym}
use Rattle.reader.proofs.cursor.Cursor.read_tag.Goals as goal

pub returns-in_default : goal.returns-in_default
returns-in_default c = behind_none _ _ _ _ c.requires.at_in_bounds _ c.after_byte-slash.ensures _ c.unwrap_or-e.ensures c.in_default.ensures c.broken_tag.ensures

pub returns-then-closing : goal.returns-then-closing
returns-then-closing c = behind_close _ _ _ _ _ c.after_byte-slash.ensures (sym c.is_some-closing.ensures ∙ c.if-closing.true) _ c.unwrap_or-e.ensures c.close_tag.ensures

pub returns-else-closing : goal.returns-else-closing
returns-else-closing c = behind_open _ _ _ _ _ c.after_byte-slash.ensures (sym c.is_some-closing.ensures ∙ c.if-closing.false) _ c.unwrap_or-e.ensures c.open_tag.ensures
