use Rattle.std.proofs.Common.{rules, tests}
use Rattle.std.proofs.lemmas.Iterator.{YieldsList-from_slice}
use Rattle.std.proofs.lemmas.Iterator.Search.{all_from_yields_List}
use Rattle.names.proofs.All.{all_told}
use Rattle.reader.specs.code.Values.{stands_alone}
use Rattle.reader.proofs.values.all_alone.Goals as goal

pub returns : goal.returns
returns c = all_told stands_alone _ _ (all_from_yields_List stands_alone _ _ _ c.all.ensures.ran (YieldsList-from_slice c.args.v.now cc) (λ x b q k. search (rules, tests)))
