use Rattle.std.proofs.Common.{rules}
use Rattle.reader.specs.Tag.{is_tag_byte}
use Rattle.reader.proofs.scan.name_run.Goals as goal

pub returns : goal.returns
returns c = c.short_run.ensures is_tag_byte (λ b r e. search rules) (λ b r e. search rules)
