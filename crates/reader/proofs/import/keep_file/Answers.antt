use Rattle.reader.proofs.ImportFile.{changes-before, settle-accepted}
use Rattle.reader.proofs.import.keep_file.Goals as goal

pub overflow_sub-count : goal.overflow_sub-count
overflow_sub-count c = changes-before c.args.numbers.now c.args.bytes.now c.args.s.now c.args.pending c.args.head c.requires

pub returns : goal.returns
returns c = settle-accepted c.args.numbers.now c.args.bytes.now c.args.s.now c.args.pending c.args.head c.requires _ _ c.file_added.ensures
