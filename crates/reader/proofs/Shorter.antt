-- Every tag that is read leaves fewer bytes, so the bound on the number of tags never refuses.
use mathlib.Core.Path.{◌≡◌, refl}
use mathlib.Core.List.{List, [], ◌∷◌}
use mathlib.Core.Bool.{Bool, true, false}
use mathlib.Core.Option.{Option, none, some}
use Prim.Native.Nat.{ℕ, zero, suc, ◌<◌, ◌≤◌}
use native.Mathlib.Omega.{arith}
use lib.ListN.{length}
use Rattle.store.specs.Answer.{Answer, refused, accepted, ◌>>=◌}
use Rattle.store.specs.Change.{Change}
use Rattle.store.specs.Machine.{Machine}
use Rattle.store.specs.Word.{Word}
use Rattle.store.proofs.Calls.Answers.{refused-accepted, accepted-same, bind_accepted}
use Rattle.reader.specs.Tag.{Read, Attr, Tag, opens, closes, next_tag}
use Rattle.reader.specs.Element.{Form, element_at}
use Rattle.reader.specs.Tell.{Place, Telling, fault, event, goes, finishes, ◌▸◌, opening, place_behind, tell_below, tell_body, tell_as, tell_closing, tell}
use Rattle.reader.specs.Judge.{Header, Progress, Next, more, closed, run, place_of, judge}
use Rattle.reader.specs.Import.{go_on, tags}
use Rattle.reader.proofs.BodyRest.{content_shorter}
use Rattle.reader.proofs.TagLengths.{next_tag_shorter}

-- Two steps that agree where they are taken.
pub bind_same : {A B : Type 0} (x : Answer A) (f g : A → Answer B) → ((a : A) → x ≡ accepted a → f a ≡ g a) → (x >>= f) ≡ (x >>= g)
unfolding ◌>>=◌
bind_same (refused n) f g h = refl
bind_same (accepted a) f g h = h a refl

-- What a tag tells goes on no earlier than behind it,
abbrev Behind : ℕ → Telling → Type 0
Behind n (fault k) = Unit {0}
Behind n (event e t) = Behind n t
Behind n (goes x s) = length s ≤ n
Behind n (finishes s) = length s ≤ n

bind_behind : {A : Type 0} (n : ℕ) (a : Answer A) (k : A → Telling) → ((c : A) → a ≡ accepted c → Behind n (k c)) → Behind n (a ▸ k)
unfolding ◌▸◌
bind_behind n (refused i) k f = tt
bind_behind n (accepted c) k f = f c refl

opening-behind : (n : ℕ) (self : Bool) (w : Option Word) (x : Place) (s : List ℕ) → length s ≤ n → Behind n (opening self w x s)
unfolding opening
opening-behind n false w x s h = h
opening-behind n true w x s h = h

below-behind : (b : Bool) (x : Place) (d e : ℕ) (as' : List Attr) (self : Bool) (s : List ℕ) → Behind (length s) (tell_below b x d e as' self s)
unfolding tell_below
below-behind b x zero e as' self s = opening-behind _ self none x s (omega arith)
below-behind b x (suc d) e as' self s = bind_behind _ _ _ (λ w a. opening-behind _ self (some w) (place_behind e x) s (omega arith))

typed-behind : (o : Option Form) (b : Bool) (x : Place) (e : ℕ) (n : List ℕ) (as' : List Attr) (self : Bool) (s : List ℕ) → Behind (length s) (tell_as o b x e n as' self s)
unfolding tell_as tell_body
typed-behind none b x e n as' self s = below-behind b x _ e as' self s
typed-behind (some f) b x e n as' self s =
    bind_behind _ _ _ (λ w a. bind_behind _ _ _ (λ c d. bind_behind _ _ _ (λ u v. opening-behind _ true (some w) (place_behind e x) c.rest (content_shorter self n s c d))))

closing-behind : (x : Place) (ws : List (Option Word)) (n s : List ℕ) → Behind (length s) (tell_closing x ws n s)
unfolding tell_closing
closing-behind x [] n s = bind_behind _ _ _ (λ u a. omega arith)
closing-behind x (w ∷ ws) n s = bind_behind _ _ _ (λ u a. omega arith)

tell-behind : (b : Bool) (x : Place) (t : Tag) (s : List ℕ) → Behind (length s) (tell b x t s)
unfolding tell
tell-behind b x (opens n as' self) s = bind_behind _ _ _ (λ e a. typed-behind (element_at e).body b x e n as' self s)
tell-behind b x (closes n) s = closing-behind x x.words n s

run-behind : (m : Machine) (n : ℕ) (t : Telling) (p : Progress) (q : Read Next) → Behind n t → run m p t ≡ accepted q → length q.rest ≤ n
unfolding run
run-behind m n (fault k) p q b e = absurd (refused-accepted k q e)
run-behind m n (event v t) p q b e = let a = bind_accepted _ _ q e in run-behind m n t a.0 q b a.2
run-behind m n (goes x s) p q b e = rw (← accepted-same e) b
run-behind m n (finishes s) p q b e = rw (← accepted-same e) b

-- so what reads on is asked only for fewer bytes.
pub judge_shorter : (m : Machine) (h : Header) (p : Progress) (t : Tag) (s : List ℕ) (q : Read Next) → judge m h p t s ≡ accepted q → length q.rest ≤ length s
unfolding judge
judge_shorter m h p t s q e = run-behind m (length s) (tell h.snapshot (place_of p) t s) p q (tell-behind h.snapshot (place_of p) t s) e

go_on-same : (q : Next) (s : List ℕ) (f g : Progress → Answer (List Change)) → ((p : Progress) → f p ≡ g p) → go_on q s f ≡ go_on q s g
unfolding go_on
go_on-same (more p) s f g h = h p
go_on-same (closed cs) s f g h = refl

tags-same : (m : Machine) (h : Header) (p : Progress) (s : List ℕ) (f g : Progress → List ℕ → Answer (List Change))
    → ((q : Progress) (t : List ℕ) → length t < length s → f q t ≡ g q t)
    → (next_tag s >>= λ t. judge m h p t.got t.rest >>= λ q. go_on q.got q.rest (λ p'. f p' q.rest))
    ≡ (next_tag s >>= λ t. judge m h p t.got t.rest >>= λ q. go_on q.got q.rest (λ p'. g p' q.rest))
tags-same m h p s f g a =
    bind_same _ _ _ (λ t e. bind_same _ _ _ (λ q j. go_on-same q.got q.rest _ _
    (λ p'. a p' q.rest (let k = next_tag_shorter s t e in let l = judge_shorter m h p t.got t.rest q j in omega arith))))

-- Bounds above the number of bytes are all the same,
pub tags_bound : (m : Machine) (h : Header) (n k : ℕ) (p : Progress) (s : List ℕ) → length s < n → length s < k → tags n m h p s ≡ tags k m h p s
unfolding tags
tags_bound m h zero k p s g l = absurd (omega arith)
tags_bound m h (suc n) zero p s g l = absurd (omega arith)
tags_bound m h (suc n) (suc k) p s g l =
    tags-same m h p s (tags n m h) (tags k m h) (λ q t r. tags_bound m h n k q t (omega arith) (omega arith))

-- so tags are read one after another with no bound.
pub tags_unroll : (m : Machine) (h : Header) (p : Progress) (s : List ℕ) → tags (suc (length s)) m h p s
    ≡ (next_tag s >>= λ t. judge m h p t.got t.rest >>= λ q. go_on q.got q.rest (λ p'. tags (suc (length q.rest)) m h p' q.rest))
unfolding tags
tags_unroll m h p s =
    tags-same m h p s (tags (length s) m h) (λ q t. tags (suc (length t)) m h q t) (λ q t l. tags_bound m h (length s) (suc (length t)) q t l (omega arith))
