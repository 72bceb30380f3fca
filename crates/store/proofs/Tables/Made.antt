-- A table made anew: the makes of its entities, in its order, give the same table.
use mathlib.Core.Path.{◌≡◌, sym, ◌∙◌, ap}
use mathlib.Core.List.{List, [], ◌∷◌, ◌++◌, append-nil}
use lib.Seq.{append_snoc}
use Rattle.store.specs.Table.{Entity, applied, table_from, table}
use Rattle.store.proofs.Tables.ChangeAtPlace.{put_last}
use Rattle.store.proofs.Tables.Size.{makes_of}
use Rattle.store.proofs.Tables.Sorted.{Ascending, ascending_ahead}

pub table_from-makes : (done es : List Entity) → Ascending (done ++ es) → table_from done (makes_of es) ≡ done ++ es
unfolding table_from makes_of applied
table_from-makes done [] a = sym (append-nil done)
table_from-makes done (e ∷ es) a =
    ap (λ (x : List Entity). table_from x (makes_of es)) (put_last e done (ascending_ahead done e es a))
    ∙ table_from-makes (done ++ e ∷ []) es (rw append_snoc a)
    ∙ append_snoc done e es

pub table-makes : (es : List Entity) → Ascending es → table (makes_of es) ≡ es
unfolding table
table-makes es a = table_from-makes [] es a
