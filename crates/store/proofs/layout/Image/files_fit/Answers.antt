use mathlib.Core.Path.{◌∙◌}
use Rattle.std.proofs.Common.{rules, tests, arith}
use Rattle.std.proofs.lemmas.Iterator.Search.{all_from_yields_List}
use Rattle.store.specs.code.Layout.{file_fits}
use Rattle.store.proofs.Lists.FirstPlaces.{yields_back}
use Rattle.store.proofs.Layouts.LayoutTests.{files-all}
use Rattle.store.proofs.layout.Image.files_fit.Goals as goal

pub returns : goal.returns
returns c = all_from_yields_List (file_fits _ _) _ _ _ c.all.ensures.ran (yields_back 0 _ _ c.rev.ensures.source (omega arith)) (λ x b q k. search (rules, tests)) ∙ files-all _ _ _
