use Rattle.reader.proofs.OdmLaws.{odm-answers, told-numbers}
use Rattle.store.proofs.Lists.Told.{told-no, told-yes}
use Rattle.reader.proofs.odm.judge_series.Goals as goal

pub returns-then-not-in_series : goal.returns-then-not-in_series
returns-then-not-in_series c = search (odm-answers, told-no)

pub returns-then-file_count-ge-FILES_MOST : goal.returns-then-file_count-ge-FILES_MOST
returns-then-file_count-ge-FILES_MOST c = search (odm-answers, told-yes, told-numbers)

pub returns : goal.returns
returns c = search (odm-answers, told-yes, told-numbers)
