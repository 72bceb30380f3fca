use Rattle.std.proofs.Common.{rules}
use Rattle.names.specs.Text.{in_value}
use Rattle.reader.proofs.scan.value_run.Goals as goal

pub returns : goal.returns
returns c = c.run_of.ensures (in_value c.args.q) (λ b r e. search rules)
