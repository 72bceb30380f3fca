-- A file that reads through without a store: to import it is to act on what it says.
use mathlib.Core.Path.{◌≡◌, refl, sym, ◌∙◌}
use mathlib.Core.Bool.{Bool, true, false}
use mathlib.Core.List.{List, [], ◌∷◌}
use mathlib.Core.Option.{Option, none, some}
use Prim.Native.Nat.{ℕ, zero, suc}
use lib.Dec.{ltb}
use lib.ListN.{length, drop}
use Rattle.store.specs.Answer.{Answer, refused, accepted, ◌>>=◌, ◌>>◌, unless}
use Rattle.store.specs.Change.{Change}
use Rattle.store.specs.Machine.{Machine, files_most}
use Rattle.store.specs.Word.{Word}
use Rattle.store.proofs.Calls.Answers.{refused-accepted, accepted-same, bind_accepted, both-accepted, then_accepted}
use Rattle.reader.specs.Tag.{Attr, Tag, opens, closes, next_tag}
use Rattle.reader.specs.Element.{Form, element_at, sort_behind, well_placed}
use Rattle.reader.specs.Tell.{Event, study, entity, leaves, Place, place, Telling, fault, event, goes, finishes, ◌▸◌, opening, place_behind, tell_below, tell_body, tell_as, tell_closing, tell}
use Rattle.reader.specs.Judge.{Header, header_of, in_series, open_odm, Frame, Progress, leaving, act, run, words_of, place_of, judge}
use Rattle.reader.specs.Import.{at_end, go_on, tags, begun, after_odm, Contents, from_first, contents}
use Rattle.reader.specs.code.Outline.{event_before, told, outline, acts, Outlined, below_odm, from_odm, outline_file, taken_by}

-- Where a tag stands behind an event.
unfoldable place_after : Event → Place → Place
place_after (study as') x = place (none ∷ x.words) x.items
place_after (entity e as' b w) x = place (some w ∷ x.words) (sort_behind e x.items)
place_after leaves x = place (drop 1 x.words) x.items

-- What a tag tells of the place behind it is right.
abbrev Leads : Place → Telling → Type 0
Leads x (fault n) = Unit {0}
Leads x (event e t) = Leads (place_after e x) t
Leads x (goes y s) = y ≡ x
Leads x (finishes s) = Unit {0}

bind_leads : {A : Type 0} (x : Place) (a : Answer A) (k : A → Telling) → ((c : A) → Leads x (k c)) → Leads x (a ▸ k)
unfolding ◌▸◌
bind_leads x (refused n) k f = tt
bind_leads x (accepted c) k f = f c

opening-leads : (x y : Place) (w : Option Word) (self : Bool) (s : List ℕ) → x ≡ place (w ∷ y.words) y.items → Leads x (opening self w y s)
unfolding opening place_after
opening-leads x y w false s e = sym e
opening-leads x y w true s e = rw e

module _ (b : Bool) where
  below-leads : (x : Place) (d e : ℕ) (as' : List Attr) (self : Bool) (s : List ℕ) → Leads x (tell_below b x d e as' self s)
  unfolding tell_below place_after
  below-leads x zero e as' self s = opening-leads _ x none self s refl
  below-leads x (suc d) e as' self s = bind_leads x _ _ (λ w. opening-leads _ (place_behind e x) (some w) self s refl)

  typed-leads : (o : Option Form) (x : Place) (e : ℕ) (n : List ℕ) (as' : List Attr) (self : Bool) (s : List ℕ) → Leads x (tell_as o b x e n as' self s)
  unfolding tell_as tell_body place_after
  typed-leads none x e n as' self s = below-leads x _ e as' self s
  typed-leads (some f) x e n as' self s = bind_leads x _ _ (λ w. bind_leads x _ _ (λ c. bind_leads x _ _ (λ u. opening-leads _ (place_behind e x) (some w) true c.rest refl)))

  closing-leads : (x : Place) (ws : List (Option Word)) (n s : List ℕ) → x.words ≡ ws → Leads x (tell_closing x ws n s)
  unfolding tell_closing place_after
  closing-leads x [] n s q = bind_leads x _ _ (λ u. tt)
  closing-leads x (w ∷ ws) n s q = bind_leads x _ _ (λ u. rw q)

  tell-leads : (x : Place) (t : Tag) (s : List ℕ) → Leads x (tell b x t s)
  unfolding tell
  tell-leads x (opens n as' self) s = bind_leads x _ _ (λ e. typed-leads (element_at e).body x e n as' self s)
  tell-leads x (closes n) s = closing-leads x x.words n s refl

module _ (m : Machine) where
  leaving-place : (p q : Progress) (fs : List Frame) → p.frames ≡ fs → leaving m p fs ≡ accepted q → place_of q ≡ place (drop 1 (words_of p.frames)) p.shown.items
  unfolding leaving words_of
  leaving-place p q [] z a = rw (← accepted-same a, z)
  leaving-place p q (f ∷ fs) z a = let d = bind_accepted _ _ q a in rw (← accepted-same d.2, z)

  act-place : (p q : Progress) (e : Event) → act m p e ≡ accepted q → place_of q ≡ place_after e (place_of p)
  unfolding act place_after words_of
  act-place p q (study as') a = rw (← accepted-same (then_accepted _ 8 _ q a).1)
  act-place p q (entity e as' b w) a = let d = bind_accepted _ _ q a in rw (← accepted-same d.2)
  act-place p q leaves a = leaving-place p q p.frames refl a

  abbrev changes : Answer Progress → Answer (List Change)
  changes a = a >>= λ q. accepted q.added

  -- One tag, by what it tells; k goes on with the file, l without a store.
  tell-run : (t : Telling) (p : Progress) (es : List Event) (k : Progress → List ℕ → Answer (List Change)) (l : Place → List ℕ → Answer (List Event))
      → ((q : Progress) (u : List ℕ) (fs : List Event) → l (place_of q) u ≡ accepted fs → k q u ≡ changes (acts m q fs))
      → Leads (place_of p) t → told t l ≡ accepted es → (run m p t >>= λ q. go_on q.got q.rest (λ p'. k p' q.rest)) ≡ changes (acts m p es)
  unfolding told event_before run acts go_on at_end
  tell-run (fault n) p es k l ih f a = absurd (refused-accepted n es a)
  tell-run (event e t) p es k l ih f a =
      let r = bind_accepted (told t l) (λ fs. accepted (e ∷ fs)) es a in
      rw (← accepted-same r.2) (by (act m p e) r.0 (λ q z. tell-run t q r.0 k l ih (rw (act-place p q e z) f) r.1))
    where
      by : (x : Answer Progress) (fs : List Event) → ((q : Progress) → x ≡ accepted q → (run m q t >>= λ q. go_on q.got q.rest (λ p'. k p' q.rest)) ≡ changes (acts m q fs))
          → (x >>= (λ q. run m q t) >>= λ q. go_on q.got q.rest (λ p'. k p' q.rest)) ≡ changes (x >>= λ q. acts m q fs)
      by (refused n) fs f = unfold ◌>>=◌ in refl
      by (accepted q) fs f = unfold ◌>>=◌ in (f q refl)
  tell-run (goes y s) p es k l ih f a = let z = ih p s es (rw (← f) a) in unfold ◌>>=◌ in z
  tell-run (finishes s) p es k l ih f a =
      let r = then_accepted _ 4 _ es a in rw (← accepted-same r.1) (unfold ◌>>=◌ in (rw r.0 (unfold unless ◌>>◌ ◌>>=◌ in refl)))

  -- To read the tags is to act on what they say.
  pub tags_split : (n : ℕ) (h : Header) (p : Progress) (s : List ℕ) (es : List Event) → outline n h.snapshot (place_of p) s ≡ accepted es
      → tags n m h p s ≡ changes (acts m p es)
  unfolding outline tags judge ◌>>=◌
  tags_split zero h p s es a = absurd (refused-accepted 4 es a)
  tags_split (suc n) h p s es a =
      let t = bind_accepted (next_tag s) _ es a in
      rw t.1
      (tell-run (tell h.snapshot (place_of p) t.0.got t.0.rest) p es (λ q u. tags n m h q u) (λ y r. outline n h.snapshot y r) (tags_split n h)
      (tell-leads h.snapshot (place_of p) t.0.got t.0.rest) t.2)

  odm_split : (self : Bool) (h : Header) (s : List ℕ) (es : List Event) → below_odm self h.snapshot s ≡ accepted es
      → after_odm self m h s ≡ changes (acts m begun es)
  unfolding below_odm after_odm at_end acts
  odm_split true h s es a = let r = then_accepted _ 4 _ es a in rw (r.0, ← accepted-same r.1) (unfold unless ◌>>◌ ◌>>=◌ in refl)
  odm_split false h s es a = tags_split (suc (length s)) h begun s es (unfold words_of in a)

  abbrev filed : Header → List Change → Contents
  filed h cs = record { header = h; changes = cs }

  odm_taken : (h : Header) (y : Answer (List Change)) (z : Answer Progress) (w : Answer ℕ) (k : ℕ) (b c : Bool) → w ≡ accepted k → y ≡ changes z
      → (w >> unless b 9 >> unless c 13 >> accepted h >>= λ g. y >>= λ cs. accepted (filed h cs)) ≡ (unless b 9 >> unless c 13 >> (z >>= λ q. accepted (filed h q.added)))
  unfolding unless ◌>>◌ ◌>>=◌
  odm_taken h y z w k false c f e = rw f
  odm_taken h y z w k true false f e = rw f
  odm_taken h y (refused n) w k true true f e = rw (f, e)
  odm_taken h y (accepted q) w k true true f e = rw (f, e)

  -- The header that the ODM tag gives is the tag's.
  odm_header : (h : Header) (u : Answer (Unit {0})) (k l : Header → Answer Contents) → k h ≡ l h → (u >> accepted h >>= k) ≡ (u >> accepted h >>= l)
  unfolding ◌>>◌ ◌>>=◌
  odm_header h (refused n) k l e = refl
  odm_header h (accepted v) k l e = e

  first_by : (n : List ℕ) (as' : List Attr) (self : Bool) (s : List ℕ) (k : ℕ) (es : List Event) (x : Outlined) → well_placed none 0 n as' ≡ accepted k
      → below_odm self (header_of as').snapshot s ≡ accepted es → record { header = as'; events = es } ≡ x → from_first m (opens n as' self) s ≡ taken_by m x
  unfolding from_first open_odm taken_by
  first_by n as' self s k es x f g e =
      rw (← e)
      (odm_header (header_of as') _ (λ h. after_odm self m h s >>= λ cs. accepted (filed h cs)) (λ h. after_odm self m (header_of as') s >>= λ cs. accepted (filed (header_of as') cs)) refl
      ∙ odm_taken (header_of as') (after_odm self m (header_of as') s) (acts m begun es) (well_placed none 0 n as') k (in_series m.files as')
      (ltb (length m.files) files_most) f (odm_split self (header_of as') s es g))

  first_split : (t : Tag) (s : List ℕ) (x : Outlined) → from_odm t s ≡ accepted x → from_first m t s ≡ taken_by m x
  unfolding from_odm
  first_split (closes n) s x a = absurd (refused-accepted 4 x a)
  first_split (opens n as' self) s x a =
      let b = bind_accepted _ _ x a in
      let w = both-accepted _ _ b.0 b.1 in
      first_by n as' self s w.0 b.0 x w.1 w.2 (accepted-same b.2)

  -- A file that reads through: to import it is to take what it says.
  pub file_split : (s : List ℕ) (x : Outlined) → outline_file s ≡ accepted x → contents m s ≡ taken_by m x
  unfolding outline_file contents
  file_split s x a = let t = bind_accepted _ _ x a in rw t.1 (unfold ◌>>=◌ in (first_split t.0.got t.0.rest x t.2))
