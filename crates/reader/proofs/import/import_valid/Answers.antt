use Rattle.std.specs.Prelude.{Ok}
use Rattle.reader.proofs.ImportCall.{import_long, import_settled, import_dropped}
use Rattle.reader.proofs.ImportFile.{ready}
use Rattle.reader.proofs.import.import_valid.Goals as goal

pub returns-then-file-gt-FILE_MOST : goal.returns-then-file-gt-FILE_MOST
returns-then-file-gt-FILE_MOST c = import_long _ _ _ _ c.requires _ c.if-file-gt-FILE_MOST.true

pub keep_file-requires : goal.keep_file-requires
keep_file-requires c = ready _ _ _ _ _ _ _ c.in-Ok.ensures

pub returns-in-Ok : goal.returns-in-Ok
returns-in-Ok c = import_settled _ _ _ _ c.requires _ c.if-file-gt-FILE_MOST.false _ _ _ (Ok _) c.in-Ok.ensures _ c.keep_file.ensures

pub returns-in-Err : goal.returns-in-Err
returns-in-Err c = import_dropped _ _ _ _ c.requires _ c.if-file-gt-FILE_MOST.false _ _ _ _ c.in-Err.ensures _ _ c.drop_added.ensures
