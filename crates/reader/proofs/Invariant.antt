-- What every judged tag keeps: the changes so far are allowed in turn and within the limits, and every open entity is live.
use mathlib.Core.Path.{◌≡◌, refl, sym, ap, subst, ◌∙◌}
use mathlib.Core.List.{List, [], ◌∷◌, ◌++◌, append_assoc}
use mathlib.Core.Bool.{Bool, true, false, ◌||◌, false≢true}
use mathlib.Core.Option.{Option, none, some}
use Prim.Native.Nat.{ℕ, zero, suc, ◌-◌, ◌≤◌, ◌<◌}
use native.Mathlib.Omega.{arith}
use lib.Dec.{eqb, leb}
use lib.ListN.{length}
use Rattle.names.specs.Bytes.{all}
use Rattle.names.specs.Key.{Key, names_used, depth_of, own_names}
use Rattle.names.specs.Name.{is_text_of, is_value}
use Rattle.names.specs.Pick.{◌and◌}
use Rattle.names.proofs.Tests.{and_l, and_r, and_i, or_true}
use Rattle.names.proofs.KeyDepth.{used_grows}
use Rattle.names.proofs.Ordered.{same_key_refl}
use Rattle.store.specs.Answer.{Answer, refused, accepted, ◌>>=◌}
use Rattle.store.specs.Change.{Kind, make, write, end, Change, change, Value, is_item, is_null, is_make, is_end, value_fits, is_change, makes, ends, live}
use Rattle.store.specs.Machine.{Machine, changes_of, live_most, within_limits, allowed_by, in_turn}
use Rattle.store.specs.Table.{table}
use Rattle.store.specs.Word.{Word, insert, update, upsert, remove, context, Decision, refuse, nothing, add, updated, decide}
use Rattle.store.proofs.Calls.Answers.{refused-accepted, accepted-same, bind_accepted, then_accepted, unless-accepted}
use Rattle.reader.specs.Tag.{Read, Attr, Tag, opens, closes}
use Rattle.reader.specs.Element.{Form, element_at, attribute_at, may_stand, get, or_else}
use Rattle.reader.specs.Tell.{Event, study, entity, leaves, Place, Telling, fault, event, goes, finishes, ◌▸◌, is_remove, opening, place_behind, tell_below, tell_body, tell_as, tell_closing, tell}
use Rattle.reader.specs.Judge.{Header, Frame, frame, clinical_frame, Shown, Progress, progress, adding, Settled, settled, effect, settle, outer_key, key_here, value_by, given_by, closing, leaving, act, Next, run, words_of, place_of, judge}
use Rattle.reader.specs.code.Keeping.{KeyOfDepth, Open, Stack, Held, Within, Fits}
use Rattle.reader.specs.code.Placed.{Placed, Bodied}
use Rattle.reader.proofs.Forms.{placed, stands, stands_at, stands-few, untyped_body, EntityForms, entry}
use Rattle.reader.proofs.Loop.{Kept}
use Rattle.reader.proofs.ElementKeys.{covers_longer, depth_used, key_grows, key-parent}
use Rattle.store.proofs.Tables.OneChange.{live_snoc}
use Rattle.store.proofs.Tables.InTurn.{in_turn-append}

pub open_key : (past : List Change) (d : ℕ) (f : Frame) → Open past d f → KeyOfDepth d f.key
open_key past zero f o = o.0
open_key past (suc d) f o = o.0

-- Beyond depth 1 the element around is a live entity's.
pub parent_live : (past : List Change) (d : ℕ) (f : Frame) → Open past d f → (eqb (suc d) 1 || live past f.key) ≡ true
parent_live past zero f o = refl
parent_live past (suc d) f o = rw o.1 (or_true (eqb (suc (suc d)) 1))

-- A change that does not end an entity leaves it live.
live_still : (past : List Change) (c : Change) (k : Key) → ends k c ≡ false → live past k ≡ true → live (past ++ c ∷ []) k ≡ true
unfolding ◌and◌
live_still past c k e l = rw (live_snoc, e, l) (or_true (makes k c))

module _ (past : List Change) (c : Change) where
  open_still : (d : ℕ) (f : Frame) → ((k : Key) → length k ≡ names_used d → ends k c ≡ false) → Open past d f → Open (past ++ c ∷ []) d f
  open_still zero f h o = o
  open_still (suc d) f h o = (o.0, live_still past c f.key (h f.key o.0.1) o.1)

  -- so also the open ones.
  stack_still : (fs : List Frame) → ((d : ℕ) (k : Key) → d < length fs → length k ≡ names_used d → ends k c ≡ false) → Stack past fs → Stack (past ++ c ∷ []) fs
  stack_still [] h s = tt
  stack_still (f ∷ fs) h s = (open_still (length fs) f (λ k. h (length fs) k (omega arith)) s.0, stack_still fs (λ d k g. h d k (omega arith)) s.1)

-- An end of a key ends none that is shorter.
end_deeper : (e : ℕ) (j : Key) → e < 6 → length j ≡ names_used e → (d : ℕ) (k : Key) → d < e → length k ≡ names_used d → ends k (change end j []) ≡ false
unfolding ends is_end ◌and◌
end_deeper e j h l d k g n = let u = used_grows d e g (omega arith) in covers_longer j k (omega arith)

-- What a decision tells of the word and of the entity.
abbrev pub Says : Decision → Bool → Bool → Bool → Type 0
Says (refuse n) removing l g = 1 ≤ n
Says nothing removing l g = (removing ≡ false) × (l ≡ true)
Says (add make) removing l g = (removing ≡ false) × (l ≡ false)
Says (add write) removing l g = (removing ≡ false) × (l ≡ true) × (g ≡ true)
Says (add end) removing l g = (removing ≡ true) × (l ≡ true)

pub says : (w : Word) (l g : Bool) → Says (decide w l g) (is_remove w) l g
unfolding decide updated is_remove
says insert true g = omega arith
says insert false g = (refl, refl)
says update true true = (refl, refl, refl)
says update true false = (refl, refl)
says update false g = omega arith
says upsert true true = (refl, refl, refl)
says upsert true false = (refl, refl)
says upsert false g = (refl, refl)
says remove true g = (refl, refl)
says remove false g = omega arith
says context true g = (refl, refl)
says context false g = omega arith

one_more_lem : (past cs : List Change) (c : Change) → in_turn past cs ≡ true → is_change c ≡ true → allowed_by c.kind (past ++ cs) c.key ≡ true
    → leb (length (table (past ++ (cs ++ c ∷ [])))) live_most ≡ true → in_turn past (cs ++ c ∷ []) ≡ true
unfolding in_turn
one_more_lem past cs c t f a l = rw in_turn-append (and_i _ _ t (and_i _ _ f (and_i _ _ a (and_i _ _ (rw append_assoc l) refl))))

module _ (m : Machine) where
  -- One more change, if it is allowed.
  adding-held : (cs ds : List Change) (c : Change) → Held m cs → is_change c ≡ true → allowed_by c.kind (changes_of m.files ++ cs) c.key ≡ true
      → adding m cs c ≡ accepted ds → (ds ≡ cs ++ c ∷ []) × Held m ds
  unfolding adding within_limits
  adding-held cs ds c h f a e =
      let t = then_accepted _ 13 _ ds e in
      let limits = and_r _ _ t.0 in (
        sym (accepted-same t.1),
        rw (← accepted-same t.1) record { turn = one_more_lem _ cs c h.turn f a (and_r _ _ limits); many = and_l _ _ t.0; long = and_l _ _ limits },
      )

  -- The end of the innermost open entity.
  end-within : (x : Shown) (f : Frame) (fs : List Frame) (cs ds : List Change) → Held m cs → Stack (changes_of m.files ++ cs) (f ∷ fs) → f.ending ≡ true
      → adding m cs (change end f.key []) ≡ accepted ds → Within m (progress fs ds x)
  unfolding is_change allowed_by value_fits is_null is_value is_text_of all ◌and◌
  end-within x f fs cs ds h s b e = go (length fs) refl s.0
    where
      go : (d : ℕ) → length fs ≡ d → Open (changes_of m.files ++ cs) d f → Within m (progress fs ds x)
      go zero q o = absurd (false≢true (sym o.1 ∙ b))
      go (suc d) q o =
          let a = adding-held cs ds (change end f.key []) h (rw o.0.0) o.1 e in
          let deep : length fs < 6 = let h = o.0.2 in omega arith in
          let long : length f.key ≡ names_used (length fs) = rw q o.0.1 in
          record { held = a.1; stack = rw (a.0, ← append_assoc) (stack_still _ _ fs (end_deeper (length fs) f.key deep long) s.1) }

  closing-within : (x : Shown) (f : Frame) (fs : List Frame) (cs ds : List Change) (b : Bool) → f.ending ≡ b → Held m cs → Stack (changes_of m.files ++ cs) (f ∷ fs)
      → closing m cs f.key b ≡ accepted ds → Within m (progress fs ds x)
  unfolding closing
  closing-within x f fs cs ds false g h s e = rw (← accepted-same e) record { held = h; stack = s.1 }
  closing-within x f fs cs ds true g h s e = end-within x f fs cs ds h s g e

-- The word of an entity whose element opens in the innermost open one is done,
module _ (m : Machine) (x : Shown) (f : Frame) (fs : List Frame) (cs : List Change) (k : Key) (v : Value) (w : Word) (g : Bool) (d : Settled)
    (h : Held m cs) (s : Stack (changes_of m.files ++ cs) (f ∷ fs)) (y : Fits (changes_of m.files ++ cs) (length fs) k v g) where
  abbrev Opened : Settled → Type 0
  Opened d = Within m (progress (frame k (some w) d.ending ∷ f ∷ fs) d.changes x)

  -- with no change so far,
  unchanged : (b : Bool) → live (changes_of m.files ++ cs) k ≡ true → Opened (settled cs b)
  unchanged b l = record { held = h; stack = ((y.key, l), s) }

  -- or with a make or a write.
  changed : (a : Kind) → is_end a ≡ false → is_change (change a k v) ≡ true → allowed_by a (changes_of m.files ++ cs) k ≡ true
      → live ((changes_of m.files ++ cs) ++ change a k v ∷ []) k ≡ true
      → (adding m cs (change a k v) >>= λ ds. accepted (settled ds false)) ≡ accepted d → Opened d
  unfolding ends ◌and◌
  changed a b c t l e =
      let n = bind_accepted _ _ d e in
      let o = adding-held m cs n.0 (change a k v) h c t n.1 in
      let here : (changes_of m.files ++ cs) ++ change a k v ∷ [] ≡ changes_of m.files ++ n.0 = rw (o.0, append_assoc) refl in
      let r : Stack (changes_of m.files ++ n.0) (f ∷ fs) = subst (λ (z : List Change). Stack z (f ∷ fs)) here (stack_still _ _ (f ∷ fs) (λ d k u z. rw b) s) in
      rw (← accepted-same n.2) record { held = o.1; stack = ((y.key, rw (o.0, ← append_assoc) l), r) }

  effect-within : (x : Decision) → Says x (is_remove w) (live (changes_of m.files ++ cs) k) g → effect m cs k v x ≡ accepted d → Opened d
  unfolding effect is_change value_fits allowed_by is_end is_make makes ends ◌and◌
  effect-within (refuse n) l e = absurd (refused-accepted n d e)
  effect-within nothing l e = rw (← accepted-same e) (unchanged false l.1)
  effect-within (add make) l e =
      changed make refl (rw (y.key.0, y.value) y.null) (rw l.1 y.parent) (rw (live_snoc, same_key_refl k)) e
  effect-within (add write) l e =
      changed write refl (rw (y.key.0, y.value) (y.given l.2)) l.1 (live_still _ (change write k v) k refl l.1) e
  effect-within (add end) l e = rw (← accepted-same e) (unchanged true l.1)

-- The key and value that an element's attributes and body give.
pub fits : (past : List Change) (f : Frame) (fs : List Frame) (form : Option Form) (as' : List Attr) (b : List ℕ) → Stack past (f ∷ fs) → length fs < 5
    → EntityForms (suc (length fs)) form as' b → Fits past (length fs) (key_here (suc (length fs)) (f ∷ fs) as') (value_by form as' b) (given_by form as')
unfolding key_here outer_key is_item
fits past f fs form as' b s h y =
    let n = or_else [] (get (attribute_at (suc (suc (length fs))) 0) as') in
    let r = or_else [] (get (attribute_at (suc (suc (length fs))) 1) as') in
    let outer = open_key past (length fs) f s.0 in
    let key = key_grows n r (length fs) f.key h outer y.names in
    let deep : depth_of (f.key ++ own_names (suc (length fs)) n r) ≡ suc (length fs) = depth_used _ (length fs) h key.1 in
    record {
      key = key;
      parent = rw (deep, key-parent n r (length fs) f.key h outer) (parent_live past (length fs) f s.0);
      value = y.value';
      null = rw deep y.null;
      given = λ e. rw deep (y.given e);
    }

-- An event where so many elements are open below ODM: ClinicalData opens in ODM, an entity's element, which is well placed, in another.
abbrev pub Fitting : ℕ → Event → Type 0
Fitting d (study as') = d ≡ 0
Fitting d (entity e as' b w) = (1 ≤ d) × (may_stand (suc d) e ≡ true) × Placed e as' × Bodied (element_at e).body b
Fitting d leaves = Unit {0}

-- How many are open behind it.
abbrev open_behind : Event → ℕ → ℕ
open_behind (study as') d = suc d
open_behind (entity e as' b w) d = suc d
open_behind leaves d = d - 1

abbrev AllFitting : ℕ → Telling → Type 0
AllFitting d (fault n) = Unit {0}
AllFitting d (event e t) = Fitting d e × AllFitting (open_behind e d) t
AllFitting d (goes x s) = Unit {0}
AllFitting d (finishes s) = Unit {0}

-- So are the events that a tag tells.
bind_fitting : {A : Type 0} (d : ℕ) (a : Answer A) (k : A → Telling) → ((c : A) → a ≡ accepted c → AllFitting d (k c)) → AllFitting d (a ▸ k)
unfolding ◌▸◌
bind_fitting d (refused n) k f = tt
bind_fitting d (accepted c) k f = f c refl

opening_fitting : (d : ℕ) (self : Bool) (w : Option Word) (x : Place) (s : List ℕ) → AllFitting d (opening self w x s)
unfolding opening
opening_fitting d false w x s = tt
opening_fitting d true w x s = (tt, tt)

below_fitting : (b : Bool) (x : Place) (d e : ℕ) (as' : List Attr) (self : Bool) (s : List ℕ) → may_stand (suc d) e ≡ true → Placed e as' → (element_at e).body ≡ none
    → AllFitting d (tell_below b x d e as' self s)
unfolding tell_below
below_fitting b x zero e as' self s m p n = (refl, opening_fitting _ self none x s)
below_fitting b x (suc d) e as' self s m p n = bind_fitting (suc d) _ _ (λ w a. ((omega arith, m, p, rw n refl), opening_fitting _ self (some w) (place_behind e x) s))

-- A typed item stands in another element.
typed-deep : (d e : ℕ) (f : Form) → may_stand (suc d) e ≡ true → (element_at e).body ≡ some f → 1 ≤ d
typed-deep zero e f m y = let z = untyped_body 1 (omega arith) in let q : e ≡ 1 = stands_at 1 e m (omega arith) in let y' : (element_at 1).body ≡ some f = rw q at y in let u : ◌≡◌ {A = ℕ} 0 1 = cc in absurd (omega arith)
typed-deep (suc d) e f m y = omega arith

typed_fitting : (o : Option Form) (b : Bool) (x : Place) (e : ℕ) (n : List ℕ) (as' : List Attr) (self : Bool) (s : List ℕ) → (element_at e).body ≡ o
    → may_stand (suc (length x.words)) e ≡ true → Placed e as' → AllFitting (length x.words) (tell_as o b x e n as' self s)
unfolding tell_as tell_body
typed_fitting none b x e n as' self s y m p = below_fitting b x (length x.words) e as' self s m p y
typed_fitting (some f) b x e n as' self s y m p =
    bind_fitting _ _ _ (λ w a. bind_fitting _ _ _ (λ c d. bind_fitting _ _ _ (λ u v.
    ((typed-deep _ e f m y, m, p, rw y (unless-accepted _ 7 u v)), opening_fitting _ true (some w) (place_behind e x) c.rest))))

closing_fitting : (d : ℕ) (x : Place) (ws : List (Option Word)) (n s : List ℕ) → AllFitting d (tell_closing x ws n s)
unfolding tell_closing
closing_fitting d x [] n s = bind_fitting d _ _ (λ u a. tt)
closing_fitting d x (w ∷ ws) n s = bind_fitting d _ _ (λ u a. (tt, tt))

tell_fitting : (b : Bool) (x : Place) (t : Tag) (s : List ℕ) → AllFitting (length x.words) (tell b x t s)
unfolding tell
tell_fitting b x (opens n as' self) s =
    bind_fitting _ _ _ (λ e a. typed_fitting (element_at e).body b x e n as' self s refl (stands _ _ n as' e a) (placed _ _ n as' e a))
tell_fitting b x (closes n) s = closing_fitting _ x x.words n s

pub words-length : (fs : List Frame) → length (words_of fs) ≡ length fs
unfolding words_of
words-length [] = refl
words-length (f ∷ fs) = ap suc (words-length fs)

module _ (m : Machine) where
  -- Such an event, done, keeps what every tag keeps.
  pub entity-within : (fs : List Frame) (cs : List Change) (x : Shown) (e : ℕ) (as' : List Attr) (b : List ℕ) (w : Word) (q : Progress) → Held m cs
      → Stack (changes_of m.files ++ cs) fs → Fitting (length fs) (entity e as' b w) → act m (progress fs cs x) (entity e as' b w) ≡ accepted q
      → Within m q × (length q.frames ≡ suc (length fs))
  unfolding act settle
  entity-within [] cs x e as' b w q i s g a = let z : 1 ≤ 0 = g.0 in absurd (omega arith)
  entity-within (f ∷ fs) cs x e as' b w q i s g a =
      let d = bind_accepted _ _ q a in
      let few = stands-few (suc (suc (length fs))) e g.1 in
      let y = fits _ f fs (element_at e).body as' b s (omega arith) (entry (length fs) e as' b g.1 g.2 g.3) in
      rw (← accepted-same d.2) (effect-within m _ f fs cs _ _ w _ d.0 i s y _ (says w _ _) d.1, refl)

  leaving-within : (fs : List Frame) (cs : List Change) (x : Shown) (q : Progress) → Held m cs → Stack (changes_of m.files ++ cs) fs
      → leaving m (progress fs cs x) fs ≡ accepted q → Within m q × (length q.frames ≡ length fs - 1)
  unfolding leaving
  leaving-within [] cs x q i s a = rw (← accepted-same a) (record { held = i; stack = s }, refl)
  leaving-within (f ∷ fs) cs x q i s a =
      let d = bind_accepted _ _ q a in
      rw (← accepted-same d.2) (closing-within m x f fs cs d.0 f.ending refl i s d.1, let z : length fs ≡ suc (length fs) - 1 = omega arith in z)

  act-within : (p q : Progress) (e : Event) → Within m p → Fitting (length p.frames) e → act m p e ≡ accepted q
      → Within m q × (length q.frames ≡ open_behind e (length p.frames))
  unfolding act
  act-within p q (study as') i g a = clinical p.frames g i.stack (then_accepted _ 8 _ q a).1
    where
      clinical : (fs : List Frame) → length fs ≡ 0 → Stack (changes_of m.files ++ p.added) fs → accepted (progress (clinical_frame ∷ fs) p.added p.shown) ≡ accepted q
          → Within m q × (length q.frames ≡ suc (length fs))
      clinical [] z s a = rw (← accepted-same a) (record { held = i.held; stack = ((refl, refl), tt) }, refl)
      clinical (f ∷ fs) z s a = absurd (omega arith)
  act-within p q (entity e as' b w) i g a = entity-within p.frames p.added p.shown e as' b w q i.held i.stack g a
  act-within p q leaves i g a = leaving-within p.frames p.added p.shown q i.held i.stack a

  run-within : (t : Telling) (p : Progress) (q : Read Next) → Within m p → AllFitting (length p.frames) t → run m p t ≡ accepted q → Kept (Within m) (Held m) q.got
  unfolding run
  run-within (fault n) p q i g a = absurd (refused-accepted n q a)
  run-within (event e t) p q i g a =
      let d = bind_accepted _ _ q a in
      let r = act-within p d.0 e i g.0 d.1 in
      run-within t d.0 q r.0 (rw r.1 g.1) d.2
  run-within (goes x s) p q i g a = rw (← accepted-same a) i
  run-within (finishes s) p q i g a = rw (← accepted-same a) i.held

  -- What every judged tag keeps; where ODM closes, the changes so far are the file's.
  pub judge-within : (h : Header) (p : Progress) (t : Tag) (s : List ℕ) (q : Read Next) → Within m p → judge m h p t s ≡ accepted q → Kept (Within m) (Held m) q.got
  unfolding judge
  judge-within h p t s q i a =
      run-within (tell h.snapshot (place_of p) t s) p q i (rw (words-length p.frames) at (tell_fitting h.snapshot (place_of p) t s)) a
