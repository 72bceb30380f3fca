use Rattle.store.proofs.Indexing.IndexLaws.{run_on, run_stop, run_past}
use Rattle.names.specs.Key.{names_in}
use lib.ListN.{drop}
use native.Mathlib.Omega.{arith}
use borrow.Author.Rules.{rules}
use Rattle.store.proofs.index.run_end.Goals as goal

pub loop-q-preserved : goal.loop-q-preserved
loop-q-preserved c = let l = c.loop-q in let a = c.args in let e = run_on a.numbers.now a.bytes.now a.c a.index.now a.n (search rules) (names_in a.k (drop a.p a.key.now)) l.q (search rules) _ c.entry_covered.ensures c.if-not-entry_covered.false in omega arith

pub returns-then-not-entry_covered : goal.returns-then-not-entry_covered
returns-then-not-entry_covered c = let l = c.loop-q in let a = c.args in let e = run_stop a.numbers.now a.bytes.now a.c a.index.now a.n (search rules) (names_in a.k (drop a.p a.key.now)) l.q (search rules) _ c.entry_covered.ensures c.if-not-entry_covered.true in (search rules, search rules, omega arith)

pub returns : goal.returns
returns c = let l = c.loop-q in let a = c.args in let e = run_past a.numbers.now a.bytes.now a.c a.index.now a.n (search rules) (names_in a.k (drop a.p a.key.now)) l.q (search rules) in (search rules, search rules, omega arith)
