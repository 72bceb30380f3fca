-- What the store does with a tag, from what the code planned of it.
use mathlib.Core.Path.{◌≡◌, refl, sym, ap, subst, ◌∙◌}
use mathlib.Core.Bool.{Bool, true, false, not, false≢true}
use mathlib.Core.List.{List, [], ◌∷◌, ◌++◌}
use mathlib.Core.Option.{some}
use Prim.Native.Nat.{ℕ, zero, suc, ◌+◌, ◌-◌, ◌≤◌, ◌<◌}
use native.Mathlib.Decide.{ℕ_discrete}
use native.Mathlib.Omega.{arith}
use lib.Dec.{eqb}
use lib.ListN.{length, get_or}
use borrow.Author.Tests.{eq-eqb, ne_eqb, eqb-true, eqb-false, not-false}
use Rattle.std.specs.Prelude.{None, Result, Ok, Err, IfOk}
use Rattle.store.specs.declared.answer.Refusal.{Refusal}
use Rattle.names.specs.Bytes.{bytes}
use Rattle.names.specs.Key.{Key, Name, names_used, is_key}
use Rattle.names.specs.Order.{same}
use Rattle.names.specs.Pick.{pick, ◌and◌}
use Rattle.store.specs.Answer.{Answer, refused, accepted, unless, ◌>>=◌, ◌>>◌}
use Rattle.store.specs.Change.{make, write, end, Change, Value}
use Rattle.store.specs.code.Deciding.{word_numbered}
use Rattle.store.specs.Machine.{Machine, changes_of}
use Rattle.store.specs.code.Rows.{first_changes}
use Rattle.store.specs.code.Pending.{machine_of, added_at}
use Rattle.store.specs.Word.{Word, Decision, refuse, nothing, add}
use Rattle.store.specs.declared.pending.Pending.{Pending}
use Rattle.store.proofs.Calls.Answers.{refused-accepted, accepted-same, bind_accepted}
use Rattle.reader.specs.Tag.{Attr}
use Rattle.reader.specs.Element.{may_stand, sort_behind, get, or_else}
use Rattle.reader.specs.Tell.{Event, entity, leaves}
use Rattle.reader.specs.Judge.{Frame, frame, clinical_frame, shown, Progress, progress, Settled, effect, settle, key_here, closing, leaving, act}
use Rattle.reader.specs.code.Found.{attrs_of}
use Rattle.reader.specs.code.Answered.{said_as}
use Rattle.reader.specs.code.Places.{part}
use Rattle.reader.specs.code.Keeping.{KeyOfDepth, Stack, Fits}
use Rattle.reader.specs.code.EntityTags.{eight_in, key_held, tag_depth, Endable}
use Rattle.reader.specs.code.OpenElements.{word_at, frames_of, sort_number, one_less, moved_by}
use Rattle.reader.specs.code.Values.{sort_at}
use Rattle.reader.specs.code.Telling.{opens_as, content_text, Opening}
use Rattle.reader.specs.code.Acting.{progress_at, acting, Acting, ActedBy, study_changes, tag_value, tag_given, entity_changes, tag_changes, idle_at, EntityOpens, EndPlanned, Planning, ChangedBy, Asking, asked_of, PlannedBy}
use Rattle.reader.specs.declared.act.Plan.{Plan}
use Rattle.reader.specs.declared.body.Content.{Content}
use Rattle.reader.specs.declared.cursor.TagRead.{TagRead}
use Rattle.reader.specs.declared.open_elements.OpenElements.{OpenElements}
use Rattle.reader.specs.declared.tell.Told.{Told}
use Rattle.reader.proofs.Forms.{stands_at}
use Rattle.reader.proofs.Invariant.{Says, says}
use Rattle.reader.proofs.Frames.{fits_here, ending-live}
use Rattle.reader.proofs.WordLaws.{remove-told}
use Rattle.reader.proofs.DecisionLaws.{end-plans}
use Rattle.reader.proofs.EntityLaws.{study-part, version-part, entity-element, key_here_lem, held-key}
use Rattle.reader.proofs.OpenElementLaws.{frames-left, frames-opened, frames-length, some_top, sort_behind_lem}
use Rattle.reader.proofs.ActAnswers.{planned_rests}

-- A buffer that two calls leave as long as it was.
pub as_long : (a b c : ℕ) → a ≡ b → b ≡ c → a ≡ c
as_long a b c e f = e ∙ f

-- The study and the version of ClinicalData.
module _ (m : Machine) (cs : List Change) (s : List ℕ) (g : TagRead) (pre : Opening s g 0 0) (x y : List ℕ) (first : x ≡ part s (get_or g.found.starts 0 0) (get_or g.found.ends 0 0))
    (second : y ≡ part s (get_or g.found.starts 1 0) (get_or g.found.ends 1 0)) (b : Bool) (test : b ≡ (same m.study x and same m.version y)) where
  first-row : g.element ≡ 1
  first-row = stands_at 1 g.element pre.stands (omega arith)

  study-is : (same m.study (or_else [] (get (bytes "StudyOID") (attrs_of s g))) and same m.version (or_else [] (get (bytes "MetaDataVersionOID") (attrs_of s g)))) ≡ b
  study-is = rw (← study-part s g first-row pre.attributed pre.placed, ← version-part s g first-row pre.attributed pre.placed, ← first, ← second) (sym test)

  pub study-other : b ≡ false → refused 8 ≡ study_changes m cs (attrs_of s g)
  unfolding study_changes unless ◌>>◌ ◌>>=◌
  study-other h = rw (study-is, h)

  pub study-same : b ≡ true → accepted cs ≡ study_changes m cs (attrs_of s g)
  unfolding study_changes unless ◌>>◌ ◌>>=◌
  study-same h = rw (study-is, h)

-- An idle tag.
not_idle : (kind word : ℕ) → kind ≡ 2 → idle_at kind word ≡ false → word ≡ 4
unfolding idle_at pick
not_idle kind word c e = eqb-true word 4 (not-false (eqb word 4) (rw c at e))

idle_closes : (kind word : ℕ) → idle_at kind word ≡ true → (eqb kind 2 ≡ true) × (eqb word 4 ≡ false)
unfolding idle_at
idle_closes kind word e = by (eqb kind 2) (eqb word 4) e
  where
    by : (c d : Bool) → pick c (not d) false ≡ true → (c ≡ true) × (d ≡ false)
    by true false y = (refl, refl)
    by true true y = absurd (false≢true (unfold pick in y))
    by false d y = absurd (false≢true (unfold pick in y))

-- The plan of a tag is that of what it opens or closes, unless it is idle.
module _ (ns bs index : List ℕ) (t : Pending) (s : List ℕ) (g : TagRead) (r : Told) (depth : ℕ) (held lens : List ℕ) (ask : Asking ns bs index t s g r depth held lens)
    (b : Bool) (is : b ≡ idle_at r.kind r.word) where
  abbrev By : List ℕ → Result Plan Refusal → Type 0
  By text p = PlannedBy (asked_of ns bs t s g r depth held lens) ns bs index t depth text p

  idle_changes : b ≡ true → asked_of ns bs t s g r depth held lens ≡ accepted (added_at ns bs t.changes)
  unfolding tag_changes closing pick
  idle_changes on = let y = idle_closes r.kind r.word (sym is ∙ on) in rw (y.0, y.1)

  pub plans_idle : (text : List ℕ) (p : Plan) → b ≡ true → p.kind ≡ None → By text (Ok p)
  plans_idle text p on z = planned_rests _ ns bs index t depth text p z (idle_changes on)

  module _ (off : b ≡ false) where
    pre : Planning ns bs t s g r.content r.kind r.word depth held lens
    pre = ask.plan (sym is ∙ off)

    pub end-key : r.kind ≡ 2 → is_key (key_held depth held lens) ≡ true
    end-key c = let e = (pre.ends c).1 in formed depth e.low e.key
      where
        formed : (l : ℕ) → 1 ≤ l → KeyOfDepth l (key_held depth held lens) → is_key (key_held depth held lens) ≡ true
        formed zero h y = absurd (omega arith)
        formed (suc l) h y = y.0

    pub plans-end : (text : List ℕ) (p : Plan) → r.kind ≡ 2 → EndPlanned ns bs index t (key_held depth held lens) text p → By text (Ok p)
    plans-end text p c x =
        let room = x.room in
        end-plans _ ns bs index t depth (key_held depth held lens) text p x text x.front (omega arith) (pre.ends c).1 (unfold tag_changes closing pick in rw (c, (pre.ends c).0))

    pub clinical_asked : (r.kind ≡ 2 → ⊥) → depth ≡ 0 → Opening s g 0 0
    clinical_asked n z = pre.clinical n z

    pub plans-clinical : (text : List ℕ) (p : Result Plan Refusal) → (r.kind ≡ 2 → ⊥) → depth ≡ 0
        → said_as (λ _. added_at ns bs t.changes) p ≡ study_changes (machine_of ns bs) (added_at ns bs t.changes) (attrs_of s g) → IfOk p (λ x. x.kind ≡ None) → By text p
    unfolding tag_changes pick
    plans-clinical text (Ok p) n z e k = planned_rests _ ns bs index t depth text p k (rw (ne_eqb r.kind 2 n, z) (sym e))
    plans-clinical text (Err j) n z e k = rw (ne_eqb r.kind 2 n, z) (sym e)

    pub entity_asked : (r.kind ≡ 2 → ⊥) → (depth ≡ 0 → ⊥) → EntityOpens (first_changes ns bs t.changes) s g r.content depth (key_held depth held lens)
    entity_asked n z = pre.entity n z

    pub plans-entity : (text : List ℕ) (p : Result Plan Refusal) → (r.kind ≡ 2 → ⊥) → (depth ≡ 0 → ⊥)
        → PlannedBy (entity_changes (machine_of ns bs) (added_at ns bs t.changes) r.kind (key_held depth held lens) (tag_value s g r.content) (tag_given s g) (word_numbered r.word)) ns bs index t depth text p → By text p
    unfolding tag_changes pick
    plans-entity text p n z x = rw (ne_eqb r.kind 2 n, ne_eqb depth 0 z) x

-- A Remove's end waits, and no other's.
effect-ending : (m : Machine) (cs : List Change) (k : Key) (v : List ℕ) (b l g : Bool) (x : Decision) (d : Settled) → Says x b l g → effect m cs k v x ≡ accepted d → d.ending ≡ b
unfolding effect
effect-ending m cs k v b l g (refuse n) d s e = absurd (refused-accepted n d e)
effect-ending m cs k v b l g nothing d s e = rw (← accepted-same e) (sym s.0)
effect-ending m cs k v b l g (add make) d s e = let a = bind_accepted _ _ d e in rw (← accepted-same a.2) (sym s.0)
effect-ending m cs k v b l g (add write) d s e = let a = bind_accepted _ _ d e in rw (← accepted-same a.2) (sym s.0)
effect-ending m cs k v b l g (add end) d s e = rw (← accepted-same e) (sym s.0)

settle-ending : (m : Machine) (cs : List Change) (k : Key) (v : List ℕ) (g : Bool) (word : ℕ) (d : Settled) → settle m cs k v g (word_numbered word) ≡ accepted d → d.ending ≡ eqb word 4
unfolding settle
settle-ending m cs k v g word d e = effect-ending m cs k v _ _ g _ d (says (word_numbered word) _ g) e ∙ remove-told word

some_word : (n : ℕ) → (n ≡ 0 → ⊥) → word_at n ≡ some (word_numbered n)
unfolding word_at pick
some_word n h = rw (ne_eqb n 0 h)

-- What a tag leads to, by the definitions.
module _ (ns bs index : List ℕ) (t : Pending) (s : List ℕ) (g : TagRead) (o : OpenElements) (c : Content) (kind word depth : ℕ) (held lens : List ℕ) (pre : Acting ns bs index t s g o c kind word depth held lens) where
  abbrev k : List Name
  k = eight_in held lens

  abbrev m : Machine
  m = machine_of ns bs

  abbrev p : Progress
  p = progress_at ns bs t o k

  abbrev l : List Attr
  l = attrs_of s g

  abbrev key : Key
  key = key_held depth held lens

  abbrev v : Value
  v = tag_value s g c

  abbrev gave : Bool
  gave = tag_given s g

  -- What is open behind it.
  abbrev behind : OpenElements
  behind = moved_by o g.element kind word

  abbrev tells : Event
  tells = opens_as o.level g.element l (content_text s c) word

  -- The changes behind it, with the elements that are open then.
  abbrev Leads : Type 0
  Leads =
      acting m p kind tells
      ≡ (tag_changes m (added_at ns bs t.changes) kind depth key l v gave word >>= λ cs. accepted (progress (frames_of behind k) cs (shown (sort_at behind.items))))

  opens-kind : (kind ≡ 2 → ⊥) → kind < 2
  opens-kind z = let h = pre.kinds in omega arith

  -- A closing tag.
  module _ (closes' : kind ≡ 2) where
    depth-left : depth ≡ o.level - 1
    depth-left = pre.depth_is ∙ (unfold tag_depth pick in rw closes')

    top : word ≡ get_or o.words (o.level - 1) 0
    top = let c = pre.closes closes' in c.word-is ∙ sym (some_top o (λ q. (let y = c.inner in omega arith)))

    frames_are : frames_of o k ≡ frame key (word_at word) (eqb word 4) ∷ frames_of (one_less o) k
    frames_are = frames-left o k (pre.closes closes').inner ∙ rw (← top, ← depth-left, ← held-key depth held lens)

    left_is : acting m p kind tells ≡ (closing m (added_at ns bs t.changes) key (eqb word 4) >>= λ cs. accepted (progress (frames_of (one_less o) k) cs (shown (sort_at o.items))))
    unfolding acting pick act leaving
    left_is = rw (closes', frames_are)

    moved_left : moved_by o g.element kind word ≡ one_less o
    unfolding moved_by pick
    moved_left = rw closes'

    -- The innermost open entity is live where its closing tag adds an end.
    left_endable : word ≡ 4 → Endable (first_changes ns bs t.changes) depth key
    left_endable four =
        let st : Stack (first_changes ns bs t.changes) (frame key (word_at word) (eqb word 4) ∷ frames_of (one_less o) k) =
        subst (λ (cs : List Change). Stack cs (frame key (word_at word) (eqb word 4) ∷ frames_of (one_less o) k)) (sym pre.taking.loaded.joined)
        (subst (λ (fs : List Frame). Stack (changes_of m.files ++ added_at ns bs t.changes) fs) frames_are pre.within.stack) in
        let y = ending-live (first_changes ns bs t.changes) (frame key (word_at word) (eqb word 4)) (frames_of (one_less o) k) depth
        (frames-length (o.level - 1) k o.words ∙ sym depth-left) st (eq-eqb word 4 four) in
        record { low = y.0; key = y.1; live = y.2 }

    left-leads : Leads
    left-leads = left_is ∙ rw (moved_left, closes') (unfold tag_changes pick in refl)

  -- An opening tag.
  module _ (opens' : kind < 2) where
    not_closing : eqb kind 2 ≡ false
    not_closing = ne_eqb kind 2 (λ q. omega arith)

    depth_here : depth ≡ o.level
    depth_here = pre.depth_is ∙ (unfold tag_depth pick in rw not_closing)

    tag : Opening s g o.level word
    tag = pre.opens opens'

    acting-is : acting m p kind tells ≡ (act m p tells >>= λ q. pick (eqb kind 1) (act m q leaves) (accepted q))
    acting-is = unfold acting in (rw not_closing (unfold pick in refl))

    -- What is open behind it, where it closes the element too, and the sort of the items then.
    frames-self : (kind ≡ 0 → ⊥) → frames_of behind k ≡ frames_of o k
    unfolding moved_by pick
    frames-self n = let e : kind ≡ 1 = omega arith in rw e

    items-behind : behind.items ≡ sort_number g.element o.items
    unfolding moved_by pick
    items-behind = elim (ℕ_discrete kind 0) [ yes z ↦ rw z | no n ↦ (let e : kind ≡ 1 = omega arith in rw e) ]

    items-sorted : sort_at behind.items ≡ sort_behind g.element (sort_at o.items)
    items-sorted = rw items-behind (sort_behind_lem g.element o.items)

    -- ClinicalData.
    module _ (bottom : depth ≡ 0) where
      none_open_lem : o.level ≡ 0
      none_open_lem = sym depth_here ∙ bottom

      clinical-opening : Opening s g 0 0
      clinical-opening = let w = tag.clinical none_open_lem in rw (none_open_lem, w) at tag

      items_still : sort_at behind.items ≡ sort_at o.items
      items_still =
          let z = none_open_lem in
          let q = stands_at (o.level + 1) g.element tag.stands (omega arith) in
          let first : g.element ≡ 1 = omega arith in
          items-sorted ∙ rw first (unfold sort_behind pick in refl)

      abbrev entered : Progress
      entered = progress (clinical_frame ∷ frames_of o k) (added_at ns bs t.changes) (shown (sort_at o.items))

      clinical-opened : kind ≡ 0 → frames_of behind k ≡ clinical_frame ∷ frames_of o k
      unfolding moved_by pick
      clinical-opened z = let size = pre.words_size in rw z (frames-opened o k word (omega arith) ∙ rw (none_open_lem, tag.clinical none_open_lem) (unfold names_used word_at pick in refl))

      clinical_moved : pick (eqb kind 1) (act m entered leaves) (accepted entered) ≡ accepted (progress_at ns bs t behind k)
      clinical_moved = go (eqb kind 0) refl
        where
          go : (c : Bool) → eqb kind 0 ≡ c → pick (eqb kind 1) (act m entered leaves) (accepted entered) ≡ accepted (progress_at ns bs t behind k)
          go true c = let z : kind ≡ 0 = eqb-true kind 0 c in rw (clinical-opened z, items_still, z) (unfold pick in refl)
          go false c = self (let n = eqb-false kind 0 c in omega arith)
            where
              self : kind ≡ 1 → pick (eqb kind 1) (act m entered leaves) (accepted entered) ≡ accepted (progress_at ns bs t behind k)
              self z = rw (frames-self (λ q. omega arith), items_still, z) (unfold pick act leaving closing ◌>>=◌ in refl)

      clinical-is : acting m p kind tells
          ≡ (unless (same m.study (or_else [] (get (bytes "StudyOID") l)) and same m.version (or_else [] (get (bytes "MetaDataVersionOID") l))) 8 >> accepted entered >>= λ q. pick (eqb kind 1) (act m q leaves) (accepted q))
      clinical-is = acting-is ∙ rw none_open_lem (unfold opens_as act in refl)

      clinical-leads : Leads
      clinical-leads =
          let first : tag_changes m (added_at ns bs t.changes) kind depth key l v gave word ≡ study_changes m (added_at ns bs t.changes) l = unfold tag_changes pick in rw (not_closing, bottom) in
          clinical-is ∙ rw first (unfold study_changes in by_study (same m.study (or_else [] (get (bytes "StudyOID") l)) and same m.version (or_else [] (get (bytes "MetaDataVersionOID") l))))
        where
          by_study : (b : Bool) → (unless b 8 >> accepted entered >>= λ q. pick (eqb kind 1) (act m q leaves) (accepted q))
              ≡ (unless b 8 >> accepted (added_at ns bs t.changes) >>= λ cs. accepted (progress (frames_of behind k) cs (shown (sort_at behind.items))))
          by_study false = unfold unless ◌>>◌ ◌>>=◌ in refl
          by_study true = unfold unless ◌>>◌ ◌>>=◌ in clinical_moved

    entity-low : (depth ≡ 0 → ⊥) → 1 ≤ o.level
    entity-low z = let e = depth_here in omega arith

    -- An entity.
    module _ (low : 1 ≤ o.level) where
      abbrev w : Word
      w = word_numbered word

      frames-many : length (frames_of o k) ≡ o.level
      frames-many = frames-length o.level k o.words

      -- The key that is held is the definition's.
      key-same : key_here (length (frames_of o k)) (frames_of o k) l ≡ key
      key-same = rw frames-many (sym (rw depth_here (held-key o.level held lens) ∙ key_here_lem s g o.level low tag.deep tag.attributed tag.placed tag.stands k o.words kind pre.filled opens'))

      entity-row : 2 ≤ g.element
      entity-row = entity-element s g o.level low tag.deep tag.attributed tag.placed tag.stands

      entity-fits : Fits (first_changes ns bs t.changes) (depth - 1) key v gave
      entity-fits =
          let y : o.level ≡ suc (o.level - 1) = omega arith in
          let f : Fits (changes_of m.files ++ added_at ns bs t.changes) (o.level - 1) (key_here (suc (o.level - 1)) (frames_of o k) l) v gave =
          fits_here _ (frames_of o k) g.element l (content_text s c) (o.level - 1) (frames-many ∙ y) pre.within.stack (subst (λ (i : ℕ). may_stand i g.element ≡ true) (omega arith) tag.stands) tag.placed (pre.holding opens').bodied in
          let u : suc (o.level - 1) ≡ length (frames_of o k) = sym y ∙ sym frames-many in
          let q : key_here (suc (o.level - 1)) (frames_of o k) l ≡ key = ap (λ (n : ℕ). key_here n (frames_of o k) l) u ∙ key-same in
          rw (pre.taking.loaded.joined, ← q, depth_here) f

      entity-opens : EntityOpens (first_changes ns bs t.changes) s g c depth key
      entity-opens = record { row = entity-row; attributed = tag.attributed; placed = tag.placed; holding = pre.holding opens'; low = rw depth_here low; fits = entity-fits }

      abbrev settling : Answer Settled
      settling = settle m (added_at ns bs t.changes) key v gave w

      -- The element opens, with its own frame.
      abbrev opened : Settled → Progress
      opened d = progress (frame key (some w) d.ending ∷ frames_of o k) d.changes (shown (sort_behind g.element (sort_at o.items)))

      opens-entity : opens_as o.level g.element l (content_text s c) word ≡ entity g.element l (content_text s c) w
      opens-entity = go (o.level - 1) (omega arith)
        where
          go : (d : ℕ) → o.level ≡ suc d → opens_as o.level g.element l (content_text s c) word ≡ entity g.element l (content_text s c) w
          go d e = rw e (unfold opens_as in refl)

      act-is : act m p tells ≡ (settling >>= λ d. accepted (opened d))
      act-is = rw opens-entity (unfold act in rw key-same)

      entity-is : acting m p kind tells ≡ (settling >>= λ d. pick (eqb kind 1) (act m (opened d) leaves) (accepted (opened d)))
      entity-is = acting-is ∙ rw act-is (joined settling)
        where
          joined : (x : Answer Settled) → (x >>= (λ d. accepted (opened d)) >>= λ q. pick (eqb kind 1) (act m q leaves) (accepted q))
              ≡ (x >>= λ d. pick (eqb kind 1) (act m (opened d) leaves) (accepted (opened d)))
          joined (refused n) = unfold ◌>>=◌ in refl
          joined (accepted d) = unfold ◌>>=◌ in refl

      opened-frames : kind ≡ 0 → frames_of behind k ≡ frame key (some w) (eqb word 4) ∷ frames_of o k
      unfolding moved_by pick
      opened-frames e =
          let h = tag.deep in
          let size = pre.words_size in
          rw e (frames-opened o k word (omega arith) ∙ rw (some_word word (tag.entity low), ← depth_here, ← held-key depth held lens))

      abbrev then : Settled → Answer (List Change)
      then d = pick (eqb kind 0) (accepted d.changes) (closing m d.changes key d.ending)

      abbrev Same : Settled → Type 0
      Same d = pick (eqb kind 1) (act m (opened d) leaves) (accepted (opened d)) ≡ (then d >>= λ cs. accepted (progress (frames_of behind k) cs (shown (sort_at behind.items))))

      self-same : (d : Settled) → (kind ≡ 0 → ⊥) → Same d
      unfolding pick act leaving
      self-same d n =
          let e : kind ≡ 1 = omega arith in
          rw (frames-self n, items-sorted, e)

      bind_same : (d : Settled) → Same d → (accepted d >>= λ d. pick (eqb kind 1) (act m (opened d) leaves) (accepted (opened d)))
          ≡ (accepted d >>= then >>= λ cs. accepted (progress (frames_of behind k) cs (shown (sort_at behind.items))))
      unfolding ◌>>=◌
      bind_same d e = e

      entity-leads : Leads
      entity-leads =
          let first : tag_changes m (added_at ns bs t.changes) kind depth key l v gave word ≡ entity_changes m (added_at ns bs t.changes) kind key v gave w =
          unfold tag_changes pick in rw (not_closing, ne_eqb depth 0 (λ z. (let e = depth_here in omega arith))) in
          entity-is ∙ rw first (unfold entity_changes in by_settled settling refl)
        where
          by_kind : (d : Settled) → d.ending ≡ eqb word 4 → (b : Bool) → eqb kind 0 ≡ b → Same d
          by_kind d four true c =
              let z = eqb-true kind 0 c in
              rw (opened-frames z, items-sorted, z, four) (unfold pick ◌>>=◌ in refl)
          by_kind d four false c = self-same d (eqb-false kind 0 c)

          by_settled : (x : Answer Settled) → settling ≡ x → (x >>= λ d. pick (eqb kind 1) (act m (opened d) leaves) (accepted (opened d)))
              ≡ (x >>= then >>= λ cs. accepted (progress (frames_of behind k) cs (shown (sort_at behind.items))))
          by_settled (refused n) c = unfold ◌>>=◌ in refl
          by_settled (accepted d) c = bind_same d (by_kind d (settle-ending m (added_at ns bs t.changes) key v gave word d c) (eqb kind 0) refl)

  -- What a plan of it rests on.
  pub acts-plan : idle_at kind word ≡ false → Planning ns bs t s g c kind word depth held lens
  acts-plan off =
      record {
        ends = λ c. let four = not_idle kind word c off in (four, left_endable c four);
        clinical = λ n z. clinical-opening (opens-kind n) z;
        entity = λ n z. entity-opens (opens-kind n) (entity-low (opens-kind n) z);
      }

  leads : Leads
  leads = by_kind (eqb kind 2) refl
    where
      by_depth : (kind ≡ 2 → ⊥) → (b : Bool) → eqb depth 0 ≡ b → Leads
      by_depth n true c = clinical-leads (opens-kind n) (eqb-true depth 0 c)
      by_depth n false c = entity-leads (opens-kind n) (entity-low (opens-kind n) (eqb-false depth 0 c))

      by_kind : (b : Bool) → eqb kind 2 ≡ b → Leads
      by_kind true c = left-leads (eqb-true kind 2 c)
      by_kind false c = by_depth (eqb-false kind 2 c) (eqb depth 0) refl

  abbrev Acted-as : List ℕ → List ℕ → List ℕ → Result Pending Refusal → Type 0
  Acted-as ns' bs' index' d = ActedBy (acting m p kind tells) ns bs ns' bs' index' (moved_by o g.element kind word) k d

  -- What it asks for was done.
  pub acts : (ns' bs' index' : List ℕ) (d : Result Pending Refusal) → ChangedBy (tag_changes m (added_at ns bs t.changes) kind depth key l v gave word) ns bs ns' bs' index' d → Acted-as ns' bs' index' d
  acts ns' bs' index' (Err r) u = record { is = leads ∙ rw u.is (unfold ◌>>=◌ in refl); numbers = u.numbers; bytes = u.bytes }
  acts ns' bs' index' (Ok t') u = record { is = leads ∙ rw u.is (unfold ◌>>=◌ in refl); machine = u.machine; taking = u.taking }
