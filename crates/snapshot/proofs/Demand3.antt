-- Demand 3 (specs/Demand3.antt) holds of every list of calls after an accepted Open.
use mathlib.Core.Path.{◌≡◌, refl, sym, ap}
use mathlib.Core.Bool.{true}
use mathlib.Core.List.{List, []}
use Prim.Native.Nat.{ℕ}
use native.Mathlib.Omega.{arith}
use Rattle.names.specs.Name.{is_long_name}
use Rattle.names.specs.Pick.{◌and◌}
use Rattle.names.proofs.Tests.{and_l, and_r}
use Rattle.store.specs.Answer.{Answer, refused, accepted, ◌>>◌, unless}
use Rattle.store.specs.Machine.{empty}
use Rattle.store.specs.Image.{Buffers, image}
use Rattle.store.specs.Calls.{Accepted, outcome, open_call, open_empty, right_lengths}
use Rattle.store.proofs.Calls.Answers.{accepted-same, then_accepted, both-accepted, unless-accepted}
use Rattle.store.proofs.Calls.Refusals.{not_zero}
use Rattle.snapshot.specs.Chain.{Call}
use Rattle.snapshot.specs.Demand3.{Demand3}
use Rattle.store.proofs.Calls.OpenLaws.{obeys-empty}
use Rattle.snapshot.proofs.Runs.{machine-lives, good, each-call, restoring_good, open_named}

-- An accepted Open leaves the image of the machine with no file.
open_accepted : (b : Buffers) (study version : List ℕ) (x : Answer Accepted) → open_empty b study version ≡ x → (outcome b x).refusal ≡ 0
    → ((outcome b x).buffers ≡ image (empty study version)) × (is_long_name study ≡ true) × (is_long_name version ≡ true)
unfolding outcome open_empty
open_accepted b study version (refused n) f e = let h = not_zero (open_empty b study version) n (open_named b study version) f in absurd (omega arith)
open_accepted b study version (accepted t) f e =
    let p = both-accepted (unless (right_lengths b) 1 >> unless (is_long_name study and is_long_name version) 7) (accepted record { count = 0; machine = empty study version }) t f in
    let q = then_accepted (right_lengths b) 1 (unless (is_long_name study and is_long_name version) 7) p.0 p.1 in
    let r = unless-accepted (is_long_name study and is_long_name version) 7 p.0 q.1 in
    (ap (λ (x : Accepted). image x.machine) (sym (accepted-same p.2)), and_l _ _ r, and_r (is_long_name study) _ r)

-- The claim, for every list of calls after an accepted Open.
pub demand3 : (b : Buffers) (study version : List ℕ) → (open_call b study version).refusal ≡ 0 → (cs : List Call)
    → Demand3 study version (open_call b study version).buffers cs
unfolding open_call
demand3 b study version e cs =
    let o = open_accepted b study version (open_empty b study version) refl e in
    let start = obeys-empty study version o.1 o.2 in
    let none_yet : (empty study version).files ≡ [] = unfold empty in refl in
    let g = good (empty study version) none_yet start cs in
    rw o.0
    (record {
      start = refl;
      machine = g.0;
      took = g.1.took;
      buffers = g.1.holds;
      each = each-call (empty study version) none_yet start cs;
      lives = machine-lives g.0;
      restoring = restoring_good (empty study version) none_yet start cs;
    })
