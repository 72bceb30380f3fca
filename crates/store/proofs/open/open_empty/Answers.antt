use Rattle.std.proofs.lemmas.Result.{err_from_is_err_and}
use Rattle.store.proofs.Calls.OpenLaws.{open_unsized}
use Rattle.store.proofs.Images.EmptyImage.{opening}
use Rattle.store.proofs.open.open_empty.Goals as goal
use Rattle.store.proofs.open.open_empty.Goals.{else-is_long_name-via-then-is_long_name+else-is_long_name-2, else-is_long_name-via-else-is_long_name}

pub returns-in_err-buffers_sized : goal.returns-in_err-buffers_sized
returns-in_err-buffers_sized c =
    let p = err_from_is_err_and c.from_residual.result c.from_residual.ensures.1 in
    rw (p.1, p.2) (search (open_unsized, c.in_err-buffers_sized.ensures.says))

pub empty_image-requires-clause-study_len_bound : goal.empty_image-requires-clause-study_len_bound
empty_image-requires-clause-study_len_bound c = (search (opening, c.if-is_long_name.ensures), search (opening, c.if-is_long_name-2.ensures))

pub returns-then-is_long_name-2 : goal.returns-then-is_long_name-2
returns-then-is_long_name-2 c = search (opening, c.if-is_long_name.ensures, c.if-is_long_name-2.ensures, c.in_ok-buffers_sized.ensures.sized)

pub returns-else-is_long_name : goal.returns-else-is_long_name
returns-else-is_long_name c =
    elim c.else-is_long_name.branch [
      | else-is_long_name-via-then-is_long_name+else-is_long_name-2 w ↦ search (opening, w.if-is_long_name.ensures, w.if-is_long_name-2.ensures, c.in_ok-buffers_sized.ensures.sized)
      | else-is_long_name-via-else-is_long_name w ↦ search (opening, w.if-is_long_name.ensures, c.in_ok-buffers_sized.ensures.sized)
    ]
