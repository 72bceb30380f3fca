use mathlib.Core.Path.{refl}
use Rattle.std.specs.Prelude.{Ok, Err}
use Rattle.std.proofs.lemmas.Result.{err_from_is_err_and}
use Rattle.reader.proofs.ActLaws.{as_long}
use Rattle.reader.proofs.ImportTags.{told-end, told-on, done-on, underway_begins, underway-stops, underway_asks, underway_refused, underway_on, underway-less}
use borrow.Author.Rules.{rules}
use Rattle.reader.proofs.import.read_tags.Goals as goal

pub tags-init : goal.tags-init
tags-init c = (c.requires.classes, refl, underway_begins _ _ _ _ _ _ _ _ _ _ c.requires.begins c.requires.at_in_bounds c.none-elements.ensures (search rules) (search rules))

pub returns-in_err-told : goal.returns-in_err-told
returns-in_err-told c = let p = err_from_is_err_and c.from_residual.result c.from_residual.ensures.1 in rw (p.1, p.2) (underway-stops _ _ _ _ _ _ _ _ _ _ _ _ _ c.tags.invariant.2 _ c.step-t.ensures (Err _) c.in_err-told.ensures)

pub returns-in-None : goal.returns-in-None
returns-in-None c = underway-stops _ _ _ _ _ _ _ _ _ _ _ _ _ c.tags.invariant.2 _ c.step-t.ensures (Ok tt) (told-end _ _ _ _ _ c.in_ok-told.ensures c.in-None.is)

pub act-requires : goal.act-requires
act-requires c = underway_asks _ _ _ _ _ _ _ _ _ _ _ _ _ c.tags.invariant.2 _ c.step-t.ensures c.in-Some.told (told-on _ _ _ _ _ c.in_ok-told.ensures _ c.in-Some.is) _ c.hold_names.ensures _ c.hold_lengths.ensures

pub returns-in_err-taken : goal.returns-in_err-taken
returns-in_err-taken c =
    let p = err_from_is_err_and c.from_residual-in_err-taken.result c.from_residual-in_err-taken.ensures.1 in rw (p.1, p.2)
    (underway_refused _ _ _ _ _ _ _ _ _ _ _ _ _ c.tags.invariant.2 _ c.step-t.ensures c.in-Some.told (told-on _ _ _ _ _ c.in_ok-told.ensures _ c.in-Some.is) _ c.hold_names.ensures _ c.hold_lengths.ensures _ _ _ c.in_err-taken.ensures)

pub tags-smaller : goal.tags-smaller
tags-smaller c = underway-less _ _ _ _ _ _ _ _ _ _ _ _ _ c.tags.invariant.2 _ c.step-t.ensures c.in-Some.told (told-on _ _ _ _ _ c.in_ok-told.ensures _ c.in-Some.is) _ c.hold_names.ensures _ c.hold_lengths.ensures _ _ _ _ (done-on _ _ _ _ _ _ _ c.in_ok-taken.ensures _ c.in-Some-2.is)

pub tags-preserved : goal.tags-preserved
tags-preserved c = (c.tags.invariant.0, as_long _ _ _ c.act.auto.index c.tags.invariant.1, underway_on _ _ _ _ _ _ _ _ _ _ _ _ _ c.tags.invariant.2 _ c.step-t.ensures c.in-Some.told (told-on _ _ _ _ _ c.in_ok-told.ensures _ c.in-Some.is) _ c.hold_names.ensures _ c.hold_lengths.ensures _ _ _ _ (done-on _ _ _ _ _ _ _ c.in_ok-taken.ensures _ c.in-Some-2.is))
