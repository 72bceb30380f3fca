use Rattle.std.proofs.Common.{rules, tests, ℕ}
use Rattle.std.proofs.lemmas.Iterator.{YieldsList-from_slice, YieldsList-from_zip}
use Rattle.std.proofs.lemmas.Iterator.Search.{all_from_yields_List}
use Rattle.names.specs.Date.{fits_byte}
use Rattle.names.proofs.Alike.{alike_zipped, alike-other}
use Rattle.names.proofs.date.fits_picture.Goals as goal

pub returns-then-p-s : goal.returns-then-p-s
returns-then-p-s c =
    alike_zipped fits_byte _ _ _ c.if-p-s.true
    (all_from_yields_List (λ (q : ℕ × ℕ). fits_byte q.0 q.1) c.all.new.self _ c.all.result c.all.ensures.ran
    (YieldsList-from_zip (YieldsList-from_slice c.args.p.now cc) (YieldsList-from_slice c.args.s.now cc))
    (λ x b q k. search (rules, tests)))

pub returns-else-p-s : goal.returns-else-p-s
returns-else-p-s c = alike-other fits_byte _ _ c.if-p-s.false
