use Rattle.std.proofs.Common.{◌≡◌, ℕ, List, true, false, length, sym, ◌∙◌, rules, tests, refl, add-one}
use Rattle.std.proofs.lemmas.Iterator.{IsFirst-from_position, index_from_first, YieldsList-from_slice}
use Rattle.names.specs.Pick.{pick}
use Rattle.names.specs.Scan.{front}
use Rattle.reader.proofs.scan.run_len.Goals as goal

pub returns-clause-run : goal.returns-clause-run
unfolding front pick
returns-clause-run g c = λ p t.
    let s = c.args.s.now in
    let d = IsFirst-from_position _ _ c.position.result (λ b. p b ≡ false) (λ b. p b ≡ true) c.position.ensures.ran (YieldsList-from_slice s cc) (λ x q k. search (rules, tests)) (λ x q k. search (rules, tests)) in
    c.unwrap_or.ensures ∙ sym (index_from_first (λ (l : List ℕ). length (front p l)) (λ b. p b ≡ false) (λ b. p b ≡ true) refl (λ x xs e. rw e) (λ x xs e. rw (e, add-one)) s _ d)
