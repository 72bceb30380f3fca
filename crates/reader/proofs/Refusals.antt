-- Whatever a file is refused for has its number: none of the judge's refusals is 0.
use mathlib.Core.Bool.{Bool, true, false}
use mathlib.Core.List.{List, [], ◌∷◌}
use mathlib.Core.Option.{Option, none, some}
use Prim.Native.Nat.{ℕ, zero, suc, ◌<◌}
use lib.Dec.{lit<}
use Rattle.store.specs.Answer.{Answer, refused, accepted}
use Rattle.store.specs.Change.{Kind, make, write, end, Change, Value}
use Rattle.store.specs.Machine.{Machine}
use Rattle.store.specs.Word.{Word, insert, update, upsert, remove, context, Decision, refuse, nothing, add, decide, updated}
use Rattle.store.proofs.Calls.Refusals.{Named, named, taken, named_bind, named_then, named-unless, named-present}
use Rattle.names.specs.Key.{Key}
use Rattle.reader.specs.Tag.{Attr, Tag, opens, closes}
use Rattle.reader.specs.Element.{Form, element_at, well_placed}
use Rattle.reader.specs.Tell.{Event, study, entity, leaves, Place, Telling, fault, event, goes, finishes, ◌▸◌, word_here, word_in, opening, place_behind, tell_below, tell_body, tell_as, tell_closing, tell}
use Rattle.reader.specs.Judge.{Header, open_odm, Frame, Progress, adding, effect, settle, closing, leaving, act, Next, more, closed, run, place_of, judge}
use Rattle.reader.specs.Import.{at_end, go_on, tags, after_odm, from_first, contents, import_file}
use Rattle.reader.proofs.BodyRest.{named-content}
use Rattle.reader.proofs.TagRefusals.{next-named}

-- The judge.
placed-named : (items : Option Bool) (l : ℕ) (n : List ℕ) (as' : List Attr) → Named (well_placed items l n as')
unfolding well_placed
placed-named items l n as' =
    named_bind _ _ (named-present _ 5 (lit< tt))
    (λ k. named_then _ _ (named_then _ _ (named_then _ _ (named_then _ _ (named-unless _ 5 (lit< tt)) (named-unless _ 6 (lit< tt))) (named-unless _ 16 (lit< tt))) (named-unless _ 7 (lit< tt))) taken)

odm_named : (m : Machine) (n : List ℕ) (as' : List Attr) → Named (open_odm m n as')
unfolding open_odm
odm_named m n as' =
    named_then _ _ (named_then _ _ (named_then _ _ (placed-named none 0 n as') (named-unless _ 9 (lit< tt))) (named-unless _ 13 (lit< tt))) taken

adding-named : (m : Machine) (cs : List Change) (c : Change) → Named (adding m cs c)
unfolding adding
adding-named m cs c = named_then _ _ (named-unless _ 13 (lit< tt)) taken

word-named : (snap : Bool) (o w : Option Word) → Named (word_here snap o w)
unfolding word_here
word-named true o none = taken
word-named true o (some w) = named_then _ _ (named-unless _ 10 (lit< tt)) taken
word-named false none none = named (lit< tt)
word-named false none (some w) = taken
word-named false (some o) none = taken
word-named false (some o) (some w) = named_then _ _ (named-unless _ 10 (lit< tt)) taken

-- A decision that refuses does so with 11 or 12.
data Sound : Decision → Type 0 where
  refusing : {n : ℕ} → 0 < n → Sound (refuse n)
  staying : Sound nothing
  adds : {k : Kind} → Sound (add k)

updated_sound : (g : Bool) → Sound (updated g)
unfolding updated
updated_sound true = adds
updated_sound false = staying

decide_sound : (w : Word) (l g : Bool) → Sound (decide w l g)
unfolding decide
decide_sound insert true g = refusing (lit< tt)
decide_sound insert false g = adds
decide_sound update true g = updated_sound g
decide_sound update false g = refusing (lit< tt)
decide_sound upsert true g = updated_sound g
decide_sound upsert false g = adds
decide_sound remove true g = adds
decide_sound remove false g = refusing (lit< tt)
decide_sound context true g = staying
decide_sound context false g = refusing (lit< tt)

effect-named : (m : Machine) (cs : List Change) (k : Key) (v : Value) (d : Decision) → Sound d → Named (effect m cs k v d)
unfolding effect
effect-named m cs k v (refuse n) (refusing h) = named h
effect-named m cs k v nothing staying = taken
effect-named m cs k v (add make) adds = named_bind _ _ (adding-named m _ _) (λ ds. taken)
effect-named m cs k v (add write) adds = named_bind _ _ (adding-named m _ _) (λ ds. taken)
effect-named m cs k v (add end) adds = taken

closing-named : (m : Machine) (cs : List Change) (k : Key) (b : Bool) → Named (closing m cs k b)
unfolding closing
closing-named m cs k false = taken
closing-named m cs k true = adding-named m cs _

leaving-named : (m : Machine) (p : Progress) (fs : List Frame) → Named (leaving m p fs)
unfolding leaving
leaving-named m p [] = taken
leaving-named m p (f ∷ fs) = named_bind _ _ (closing-named m p.added f.key f.ending) (λ cs. taken)

act-named : (m : Machine) (p : Progress) (e : Event) → Named (act m p e)
unfolding act settle
act-named m p (study as') = named_then _ _ (named-unless _ 8 (lit< tt)) taken
act-named m p (entity e as' b w) = named_bind _ _ (effect-named m p.added _ _ _ (decide_sound w _ _)) (λ d. taken)
act-named m p leaves = leaving-named m p p.frames

-- A fault that a tag tells has its number.
abbrev Numbered : Telling → Type 0
Numbered (fault n) = 0 < n
Numbered (event e t) = Numbered t
Numbered (goes x s) = Unit {0}
Numbered (finishes s) = Unit {0}

numbered_bind : {A : Type 0} (a : Answer A) (k : A → Telling) → Named a → ((c : A) → Numbered (k c)) → Numbered (a ▸ k)
unfolding ◌▸◌
numbered_bind (refused n) k (named h) f = h
numbered_bind (accepted c) k taken f = f c

opening_numbered : (self : Bool) (w : Option Word) (x : Place) (s : List ℕ) → Numbered (opening self w x s)
unfolding opening
opening_numbered false w x s = tt
opening_numbered true w x s = tt

below_numbered : (b : Bool) (x : Place) (d e : ℕ) (as' : List Attr) (self : Bool) (s : List ℕ) → Numbered (tell_below b x d e as' self s)
unfolding tell_below word_in
below_numbered b x zero e as' self s = opening_numbered self none x s
below_numbered b x (suc d) e as' self s = numbered_bind _ _ (word-named _ _ _) (λ w. opening_numbered self (some w) (place_behind e x) s)

typed_numbered : (o : Option Form) (b : Bool) (x : Place) (e : ℕ) (n : List ℕ) (as' : List Attr) (self : Bool) (s : List ℕ) → Numbered (tell_as o b x e n as' self s)
unfolding tell_as tell_body word_in
typed_numbered none b x e n as' self s = below_numbered b x _ e as' self s
typed_numbered (some f) b x e n as' self s =
    numbered_bind _ _ (word-named _ _ _) (λ w. numbered_bind _ _ (named-content self n s) (λ c. numbered_bind _ _ (named-unless _ 7 (lit< tt)) (λ u. opening_numbered true (some w) (place_behind e x) c.rest)))

closing_numbered : (x : Place) (ws : List (Option Word)) (n s : List ℕ) → Numbered (tell_closing x ws n s)
unfolding tell_closing
closing_numbered x [] n s = numbered_bind _ _ (named-unless _ 4 (lit< tt)) (λ u. tt)
closing_numbered x (w ∷ ws) n s = numbered_bind _ _ (named-unless _ 4 (lit< tt)) (λ u. tt)

tell_numbered : (b : Bool) (x : Place) (t : Tag) (s : List ℕ) → Numbered (tell b x t s)
unfolding tell
tell_numbered b x (opens n as' self) s = numbered_bind _ _ (placed-named _ _ n as') (λ e. typed_numbered (element_at e).body b x e n as' self s)
tell_numbered b x (closes n) s = closing_numbered x x.words n s

run-named : (m : Machine) (t : Telling) (p : Progress) → Numbered t → Named (run m p t)
unfolding run
run-named m (fault n) p h = named h
run-named m (event e t) p h = named_bind _ _ (act-named m p e) (λ q. run-named m t q h)
run-named m (goes x s) p h = taken
run-named m (finishes s) p h = taken

judge-named : (m : Machine) (h : Header) (p : Progress) (t : Tag) (s : List ℕ) → Named (judge m h p t s)
unfolding judge
judge-named m h p t s = run-named m (tell h.snapshot (place_of p) t s) p (tell_numbered h.snapshot (place_of p) t s)

-- The file.
end-named : (s : List ℕ) (cs : List Change) → Named (at_end s cs)
unfolding at_end
end-named s cs = named_then _ _ (named-unless _ 4 (lit< tt)) taken

on-named : (q : Next) (s : List ℕ) (f : Progress → Answer (List Change)) → ((p : Progress) → Named (f p)) → Named (go_on q s f)
unfolding go_on
on-named (more p) s f h = h p
on-named (closed cs) s f h = end-named s cs

tags-named : (n : ℕ) (m : Machine) (h : Header) (p : Progress) (s : List ℕ) → Named (tags n m h p s)
unfolding tags
tags-named zero m h p s = named (lit< tt)
tags-named (suc n) m h p s =
    named_bind _ _ (next-named s) (λ t. named_bind _ _ (judge-named m h p t.got t.rest) (λ q. on-named q.got q.rest _ (λ r. tags-named n m h r q.rest)))

odm_rest-named : (self : Bool) (m : Machine) (h : Header) (s : List ℕ) → Named (after_odm self m h s)
unfolding after_odm
odm_rest-named true m h s = end-named s []
odm_rest-named false m h s = tags-named _ m h _ s

first-named : (m : Machine) (t : Tag) (s : List ℕ) → Named (from_first m t s)
unfolding from_first
first-named m (closes n) s = named (lit< tt)
first-named m (opens n as' self) s = named_bind _ _ (odm_named m n as') (λ h. named_bind _ _ (odm_rest-named self m h s) (λ cs. taken))

pub import_named : (m : Machine) (s : List ℕ) → Named (import_file m s)
unfolding import_file contents
import_named m s =
    named_bind _ _ (named_then _ _ (named-unless _ 3 (lit< tt)) (named_bind _ _ (next-named _) (λ t. first-named m t.got t.rest))) (λ c. taken)
