use mathlib.Core.Path.{◌∙◌}
use Rattle.std.proofs.Common.{rules, tests, arith}
use Rattle.std.proofs.lemmas.Iterator.Search.{all_from_yields_List}
use mathlib.Core.Bool.{not}
use Rattle.names.specs.Order.{same}
use Rattle.store.specs.code.Layout.{oid_at}
use Rattle.store.proofs.Lists.FirstPlaces.{yields_back}
use Rattle.store.proofs.Layouts.LayoutTests.{new-all}
use Rattle.store.proofs.layout.Image.new_oid.Goals as goal

pub returns : goal.returns
returns c = all_from_yields_List (λ m. not (same (oid_at _ _ _) (oid_at _ _ m))) _ _ _ c.all.ensures.ran (yields_back 0 _ _ c.rev.ensures.source (omega arith)) (λ x b q k. search (rules, tests)) ∙ new-all _ _ _ _
