use Rattle.store.proofs.Calls.ValidLaws.{judged, laid-replays}
use borrow.Author.Rules.{rules}
use Rattle.store.proofs.valid.judge_image.Goals as goal

pub returns-then-not-laid_out : goal.returns-then-not-laid_out
returns-then-not-laid_out c = record { result_value = search judged; judged = search judged }

pub replay-requires-clause-numbers_len : goal.replay-requires-clause-numbers_len
replay-requires-clause-numbers_len c = (search rules, search rules, search laid-replays, search rules)

pub replay-requires-clause-c_value : goal.replay-requires-clause-c_value
replay-requires-clause-c_value c = search laid-replays

pub returns-clause-result_value : goal.returns-clause-result_value
returns-clause-result_value c = rw c.ok_or.ensures.value (search judged)

pub returns-clause-judged : goal.returns-clause-judged
returns-clause-judged c = rw c.ok_or.ensures.value (search judged)
