use Rattle.store.proofs.Indexing.IndexLaws.{row_found}
use Rattle.store.proofs.Indexing.ReplayLaws.{row-whole}
use Rattle.store.proofs.replay.step_row.Goals as goal

pub find-found-requires-clause-whole_key : goal.find-found-requires-clause-whole_key
find-found-requires-clause-whole_key c =
    let r = c.of-row.result in
    let e = c.of-row.ensures in
    row-whole c.args.numbers.now c.args.bytes.now c.args.c r.at r.names c.args.size c.requires.numbers_len.1 c.requires.c_value (rw (e.0, e.1, e.2) at r.placed) (rw e.1 at r.sized.3) (rw (e.0, e.2) at r.counted) c.requires.size_value

pub step-requires-clause-found_value : goal.step-requires-clause-found_value
step-requires-clause-found_value c =
    let r = c.of-row.result in
    let e = c.of-row.ensures in
    rw (e.0, e.1, e.2) (row_found c.args.numbers.now c.args.bytes.now c.args.c r.at r.names (rw (e.0, e.1, e.2) at r.placed) (rw (e.0, e.2) at r.counted) c.find-found.result _ c.find-found.ensures)
