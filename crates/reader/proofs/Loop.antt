-- What every judged tag keeps, an accepted file has.
use mathlib.Core.Path.{◌≡◌, subst}
use mathlib.Core.List.{List}
use Prim.Native.Nat.{ℕ, zero, suc}
use Rattle.store.specs.Answer.{accepted}
use Rattle.store.specs.Change.{Change}
use Rattle.store.specs.Machine.{Machine}
use Rattle.store.proofs.Calls.Answers.{refused-accepted, accepted-same, bind_accepted, then_accepted}
use Rattle.reader.specs.Tag.{Tag, Read, next_tag}
use Rattle.reader.specs.Judge.{Header, Progress, Next, more, closed, judge}
use Rattle.reader.specs.Import.{at_end, go_on, tags}

pub at_end-same : (s : List ℕ) (cs ds : List Change) → at_end s cs ≡ accepted ds → cs ≡ ds
unfolding at_end
at_end-same s cs ds e = accepted-same (then_accepted _ 4 _ ds e).1

-- P is kept from tag to tag; where ODM closes it gives Q of the changes.
abbrev pub Kept : (Progress → Type 0) → (List Change → Type 0) → Next → Type 0
Kept P Q (more q) = P q
Kept P Q (closed cs) = Q cs

module _ (m : Machine) (h : Header) (P : Progress → Type 0) (Q : List Change → Type 0)
    (keeps : (p : Progress) (t : Tag) (s : List ℕ) (q : Read Next) → P p → judge m h p t s ≡ accepted q → Kept P Q q.got) where
  pub tags_keep : (n : ℕ) (p : Progress) (s : List ℕ) (cs : List Change) → P p → tags n m h p s ≡ accepted cs → Q cs
  unfolding tags go_on
  tags_keep zero p s cs i e = absurd (refused-accepted 4 cs e)
  tags_keep (suc n) p s cs i e =
      let t = bind_accepted (next_tag s) _ cs e in
      let q = bind_accepted (judge m h p t.0.got t.0.rest) _ cs t.2 in
      go (tags_keep n) q.0.got q.0.rest (keeps p t.0.got t.0.rest q.0 i q.1) q.2
    where
      go : ((p : Progress) (s : List ℕ) (cs : List Change) → P p → tags n m h p s ≡ accepted cs → Q cs)
          → (q : Next) (r : List ℕ) → Kept P Q q → go_on q r (λ p'. tags n m h p' r) ≡ accepted cs → Q cs
      go ih (more q) r k e = ih q r cs k e
      go ih (closed ds) r k e = subst Q (at_end-same r ds cs e) k
