-- Tag by tag to the end of a file.
use mathlib.Core.Path.{◌≡◌, refl, sym, ap, ◌∙◌}
use mathlib.Core.Bool.{Bool, true, false}
use mathlib.Core.List.{List, []}
use mathlib.Core.Option.{none}
use Prim.Native.Nat.{ℕ, zero, suc, ◌+◌, ◌-◌, ◌≤◌, ◌<◌}
use native.Mathlib.Decide.{ℕ_discrete}
use native.Mathlib.Omega.{arith}
use lib.Dec.{eqb}
use lib.ListN.{length, drop, length-drop, length-set}
use borrow.Author.Tests.{ne_eqb, eqb-true, eqb-false}
use Rattle.std.specs.Prelude.{Option as Optional, Some, None, Result, Ok, Err}
use Rattle.names.specs.Key.{Name}
use Rattle.names.specs.Pick.{pick}
use Rattle.store.specs.Answer.{Answer, refused, accepted, ◌>>=◌}
use Rattle.store.specs.Change.{Change}
use Rattle.store.specs.Machine.{Machine}
use Rattle.store.specs.code.Pending.{machine_of, added_at, Taking, Begins}
use Rattle.store.specs.code.Refusals.{number_of}
use Rattle.store.specs.declared.answer.Refusal.{Refusal}
use Rattle.store.specs.declared.pending.Pending.{Pending}
use Rattle.store.proofs.Images.Rules.{rules_of}
use Rattle.reader.specs.Tag.{Read, read, Attr, Tag, opens, closes, next_tag}
use Rattle.reader.specs.Tell.{Telling, event, goes, leaves, opening, place_behind, tell}
use Rattle.reader.specs.code.Found.{attrs_of, Tagged}
use Rattle.reader.specs.Judge.{Header, shown, Progress, progress, act, Next, more, closed, run, place_of, judge}
use Rattle.reader.specs.Import.{go_on, tags}
use Rattle.reader.specs.code.Keeping.{Within}
use Rattle.reader.specs.code.Answered.{said_as, name_of, Attributed, tag_of, Readable}
use Rattle.reader.specs.code.EntityTags.{eight_in, tag_depth, names_filled, lengths_filled}
use Rattle.reader.specs.code.ElementNames.{row_here}
use Rattle.reader.specs.code.OpenElements.{word_at, frames_in, frames_of, none_open, one_more, one_less, sorted, moved_by}
use Rattle.reader.specs.code.Values.{sort_at}
use Rattle.reader.specs.code.Telling.{place_in, opens_as, saying, content_text, Going, Halts, ToldBy, telling}
use Rattle.reader.specs.code.Acting.{headed, progress_at, acting, Acting, Acted, ActedBy, Denied, Changed, ChangedBy, DoneBy, Asking, asked_of}
use Rattle.reader.specs.code.Reads.{read_from, ReadTo}
use Rattle.reader.specs.declared.cursor.TagRead.{TagRead}
use Rattle.reader.specs.declared.entity.Own.{Own}
use Rattle.reader.specs.declared.open_elements.OpenElements.{OpenElements}
use Rattle.reader.specs.declared.tell.Told.{Told}
use Rattle.reader.proofs.ImportRules.{none_held}
use Rattle.reader.proofs.Invariant.{judge-within}
use Rattle.reader.proofs.Shorter.{judge_shorter, tags_unroll, bind_same}
use Rattle.reader.proofs.TagLengths.{next_tag_shorter}
use Rattle.reader.proofs.ActLaws.{acts-plan, acts}
use Rattle.reader.proofs.OwnLaws.{own_depth, filled-names-size, filled_lens_size, filled_tag, filled-frames}
use Rattle.reader.proofs.TellLaws.{words_in_lem}

-- A tag that is not broken.
module _ (s : List ℕ) (level from : ℕ) (o : Answer (Read Tag)) (t : TagRead) (w : Tagged s level from o t) where
  pub opening-attributed : t.kind < 2 → Attributed s t
  opening-attributed h =
      let p = w.opening h in
      record { holds = p.holds; known = p.known; named = w.named; behind = w.behind; high = w.high }

  pub opening-row : t.kind < 2 → t.element ≡ row_here level (name_of s t)
  opening-row h = (w.opening h).row

  module _ (h : t.kind ≡ 3 → ⊥) where
    pub readable : Readable s level t
    readable =
        let k = w.kinds in
        let b = w.behind in
        let e = w.high in
        record { kinds = omega arith; attributed = opening-attributed; row = opening-row; named = w.named; inside = omega arith; high = w.high }

    tag_is : o ≡ accepted (read (tag_of s t) (drop t.next.at s))
    unfolding tag_of pick
    tag_is = go (eqb t.kind 2) refl
      where
        go : (b : Bool) → eqb t.kind 2 ≡ b
            → o ≡ accepted (read (pick b (closes (name_of s t)) (opens (name_of s t) (attrs_of s t) (eqb t.kind 1))) (drop t.next.at s))
        go true e = w.closing (eqb-true t.kind 2 e)
        go false e = let n = eqb-false t.kind 2 e in let k = w.kinds in (w.opening (omega arith)).is

moved_few : (o : OpenElements) (e kind word : ℕ) → o.level ≤ 6 → (kind ≡ 0 → o.level ≤ 5) → (moved_by o e kind word).level ≤ 6
unfolding moved_by pick
moved_few o e kind word few deep = by_kind (eqb kind 0) (eqb kind 1) (λ e. deep (eqb-true kind 0 e))
  where
    by_kind : (b c : Bool) → (b ≡ true → o.level ≤ 5) → (pick b (one_more (sorted o e) word) (pick c (sorted o e) (one_less o))).level ≤ 6
    by_kind true c h = let z = h refl in omega arith
    by_kind false true h = few
    by_kind false false h = omega arith

moved_size : (o : OpenElements) (e kind word : ℕ) → length o.words ≡ 8 → length (moved_by o e kind word).words ≡ 8
unfolding moved_by pick
moved_size o e kind word size = by_kind (eqb kind 0) (eqb kind 1)
  where
    by_kind : (b c : Bool) → length (pick b (one_more (sorted o e) word) (pick c (sorted o e) (one_less o))).words ≡ 8
    by_kind true c = length-set o.words o.level word ∙ size
    by_kind false true = size
    by_kind false false = size

-- The events of a tag that is accepted, one after another.
module _ (m : Machine) (p : Progress) (kind : ℕ) (o : OpenElements) (e : ℕ) (l : List Attr) (b : List ℕ) (word : ℕ) (rest : List ℕ) where
  run-saying : run m p (saying kind o e l b word rest) ≡ (acting m p kind (opens_as o.level e l b word) >>= λ q. accepted (read (more q) rest))
  run-saying = unfold saying acting in by_kind (eqb kind 2)
    where
      self-kind : (c : Bool) (q : Progress) → run m q (opening c (word_at word) (place_behind e (place_in o)) rest) ≡ (pick c (act m q leaves) (accepted q) >>= λ x. accepted (read (more x) rest))
      self-kind true q = unfold opening run pick in refl
      self-kind false q = unfold opening run pick ◌>>=◌ in refl

      by_kind : (c : Bool) → run m p (pick c (event leaves (goes (place_in (one_less o)) rest)) (event (opens_as o.level e l b word) (opening (eqb kind 1) (word_at word) (place_behind e (place_in o)) rest)))
          ≡ (pick c (act m p leaves) (act m p (opens_as o.level e l b word) >>= λ q. pick (eqb kind 1) (act m q leaves) (accepted q)) >>= λ q. accepted (read (more q) rest))
      by_kind true = unfold pick run in refl
      by_kind false = unfold pick run in joined (act m p (opens_as o.level e l b word))
        where
          joined : (x : Answer Progress) → (x >>= λ q. run m q (opening (eqb kind 1) (word_at word) (place_behind e (place_in o)) rest))
              ≡ (x >>= (λ q. pick (eqb kind 1) (act m q leaves) (accepted q)) >>= λ q. accepted (read (more q) rest))
          joined (refused n) = unfold ◌>>=◌ in refl
          joined (accepted q) = unfold ◌>>=◌ in self-kind (eqb kind 1) q

-- Where the tags are read so far: what is taken, held and open there.
pub record Standing (ns bs index held lens s : List ℕ) (at : ℕ) (t : Pending) (o : OpenElements) : Type 0 where
  pub taking : Taking ns bs index t
  pub names-size : length held ≡ 128
  pub lengths_size : length lens ≡ 8
  pub words_size : length o.words ≡ 8
  pub few : o.level ≤ 6
  pub within : Within (machine_of ns bs) (progress_at ns bs t o (eight_in held lens))
  pub high : at ≤ length s

-- What the tags from there on make of it.
abbrev left_at : List ℕ → List ℕ → List ℕ → List ℕ → List ℕ → ℕ → Bool → Pending → OpenElements → Answer (List Change)
left_at ns bs held lens s at snapshot t o = tags (suc (length (drop at s))) (machine_of ns bs) (headed snapshot) (progress_at ns bs t o (eight_in held lens)) (drop at s)

-- One turn: the tag at a place.
module _ (ns bs index held lens s : List ℕ) (at : ℕ) (pending : Pending) (elements : OpenElements) (u : Standing ns bs index held lens s at pending elements) where
  abbrev k : List Name
  k = eight_in held lens

  module _ (snapshot : Bool) (t : TagRead) (w : Tagged s (elements.level + 1) (at + 1) (next_tag (drop at s)) t) where
    -- The tag, broken or not, says what the code told of it.
    told_is : left_at ns bs held lens s at snapshot pending elements
        ≡ (run (machine_of ns bs) (progress_at ns bs pending elements k) (telling snapshot (place_in elements) s t) >>= λ q.
        go_on q.got q.rest (λ p'. tags (suc (length q.rest)) (machine_of ns bs) (headed snapshot) p' q.rest))
    told_is = tags_unroll (machine_of ns bs) (headed snapshot) (progress_at ns bs pending elements k) (drop at s) ∙ by_kind (eqb t.kind 3) refl
      where
        by_kind : (b : Bool) → eqb t.kind 3 ≡ b → (next_tag (drop at s) >>= λ x. judge (machine_of ns bs) (headed snapshot) (progress_at ns bs pending elements k) x.got x.rest >>= λ q.
            go_on q.got q.rest (λ p'. tags (suc (length q.rest)) (machine_of ns bs) (headed snapshot) p' q.rest))
            ≡ (run (machine_of ns bs) (progress_at ns bs pending elements k) (telling snapshot (place_in elements) s t) >>= λ q.
            go_on q.got q.rest (λ p'. tags (suc (length q.rest)) (machine_of ns bs) (headed snapshot) p' q.rest))
        by_kind true e = rw (w.broken (eqb-true t.kind 3 e)) (unfold telling pick in (rw e (unfold run ◌>>=◌ in refl)))
        by_kind false e =
            rw (tag_is s (elements.level + 1) (at + 1) (next_tag (drop at s)) t w (eqb-false t.kind 3 e))
            (unfold telling pick judge in (rw (e, words_in_lem elements.level k elements.words) (unfold ◌>>=◌ in refl)))

    -- The file stops at it.
    halted_is : (r : Result (Unit {0}) Refusal) → Halts (telling snapshot (place_in elements) s t) r → said_as (λ _. added_at ns bs pending.changes) r ≡ left_at ns bs held lens s at snapshot pending elements
    halted_is r h = sym (h (machine_of ns bs) (progress_at ns bs pending elements k) (λ p' rest. tags (suc (length rest)) (machine_of ns bs) (headed snapshot) p' rest)) ∙ sym told_is

    -- It is accepted without the store, and the names that it gives are put behind those of the open elements.
    module _ (r : Told) (going : Going (telling snapshot (place_in elements) s t) s t elements r) (held' lens' : List ℕ) (ex : held' ≡ names_filled held s r.own) (ey : lens' ≡ lengths_filled lens r.own) where
      names-many : length held' ≡ 128
      names-many = filled-names-size held lens s t elements.level u.names-size u.lengths_size r.own going.short held' lens' ex ey

      lengths_many : length lens' ≡ 8
      lengths_many = filled_lens_size held lens s t elements.level u.names-size u.lengths_size r.own going.short held' lens' ex ey

      abbrev now' : Progress
      now' = progress_at ns bs pending elements (eight_in held' lens')

      same-depth : tag_depth t.kind elements.level ≡ tag_depth r.kind elements.level
      unfolding tag_depth pick
      same-depth = elim (ℕ_discrete r.kind 2) [
        | yes q ↦ rw (q, going.closing q)
        | no n ↦ (let h = going.kinds in let y = going.opening (omega arith) in rw (ne_eqb r.kind 2 n, ne_eqb t.kind 2 (λ z. omega arith)))
      ]

      whole : t.kind ≡ 3 → ⊥
      whole e = elim (ℕ_discrete r.kind 2) [
        | yes q ↦ (let y = going.closing q in omega arith)
        | no n ↦ (let h = going.kinds in let y = going.opening (omega arith) in omega arith)
      ]

      e : frames_of elements (eight_in held' lens') ≡ frames_of elements k
      e = filled-frames held lens s t elements.level u.names-size u.lengths_size r.own going.short held' lens' ex ey going.own_is elements.words u.few

      -- The store may be told of it.
      may-act : Acting ns bs index pending s t elements r.content r.kind r.word r.own.depth held' lens'
      may-act =
          record {
            taking = u.taking;
            names-size = names-many;
            lengths_size = lengths_many;
            words_size = u.words_size;
            few = u.few;
            kinds = going.kinds;
            depth_is = ap (λ (o : Own). o.depth) going.own_is ∙ own_depth s t elements.level ∙ rw same-depth;
            opens = going.opens;
            holding = going.holding;
            closes = going.closes;
            filled = filled_tag held lens s t elements.level u.names-size u.lengths_size r.own going.short held' lens' ex ey going.own_is r.kind going.opening;
            within = rw e u.within;
          }

      abbrev done : Answer Progress
      done = acting (machine_of ns bs) now' r.kind (opens_as elements.level t.element (attrs_of s t) (content_text s r.content) r.word)

      run_is : run (machine_of ns bs) now' (telling snapshot (place_in elements) s t) ≡ (done >>= λ q. accepted (read (more q) (drop r.content.next.at s)))
      run_is = rw going.is (run-saying (machine_of ns bs) now' r.kind elements t.element (attrs_of s t) (content_text s r.content) r.word (drop r.content.next.at s))

      left_is : left_at ns bs held lens s at snapshot pending elements
          ≡ (run (machine_of ns bs) now' (telling snapshot (place_in elements) s t) >>= λ q. go_on q.got q.rest (λ p'. tags (suc (length q.rest)) (machine_of ns bs) (headed snapshot) p' q.rest))
      left_is = rw e told_is

      judged_is : judge (machine_of ns bs) (headed snapshot) now' (tag_of s t) (drop t.next.at s) ≡ run (machine_of ns bs) now' (telling snapshot (place_in elements) s t)
      unfolding judge telling pick
      judged_is = rw (ne_eqb t.kind 3 whole, words_in_lem elements.level (eight_in held' lens') elements.words)

      may_ask : Asking ns bs index pending s t r r.own.depth held' lens'
      may_ask = record { taking = u.taking; names-size = names-many; lengths_size = lengths_many; plan = λ off. acts-plan ns bs index pending s t elements r.content r.kind r.word r.own.depth held' lens' may-act off }

      -- The store refuses it,
      module _ (ns' bs' index' : List ℕ) where
        acted : (d : Result Pending Refusal) → ChangedBy (asked_of ns bs pending s t r r.own.depth held' lens') ns bs ns' bs' index' d
            → ActedBy done ns bs ns' bs' index' (moved_by elements t.element r.kind r.word) (eight_in held' lens') d
        acted d b = acts ns bs index pending s t elements r.content r.kind r.word r.own.depth held' lens' may-act ns' bs' index' d b

        denied-is : (n : Refusal) → Denied (asked_of ns bs pending s t r r.own.depth held' lens') n ns bs ns' bs' → refused (number_of n) ≡ left_at ns bs held lens s at snapshot pending elements
        unfolding ◌>>=◌
        denied-is n b = let x = acted (Err n) b in sym (left_is ∙ rw (run_is, x.is))

        -- or does it: the turn of the tag leaves less to be read, with the same answer to come.
        module _ (t' : Pending) (b : ChangedBy (asked_of ns bs pending s t r r.own.depth held' lens') ns bs ns' bs' index' (Ok t')) where
          taken : Acted done ns bs ns' bs' index' (moved_by elements t.element r.kind r.word) (eight_in held' lens') t'
          taken = acted (Ok t') b

          abbrev next : Progress
          next = progress_at ns' bs' t' r.elements (eight_in held' lens')

          on-is : run (machine_of ns bs) now' (telling snapshot (place_in elements) s t) ≡ accepted (read (more next) (drop r.content.next.at s))
          unfolding ◌>>=◌
          on-is = run_is ∙ rw (taken.is, going.elements-is)

          -- A tag leaves less of the file.
          read-less : length s - r.content.next.at < length s - at
          read-less =
              let x = judge_shorter (machine_of ns bs) (headed snapshot) now' (tag_of s t) (drop t.next.at s) (read (more next) (drop r.content.next.at s)) (judged_is ∙ on-is) in
              let y = next_tag_shorter (drop at s) (read (tag_of s t) (drop t.next.at s)) (tag_is s (elements.level + 1) (at + 1) (next_tag (drop at s)) t w whole) in
              let e1 = length-drop r.content.next.at s in
              let e2 = length-drop t.next.at s in
              let e3 = length-drop at s in
              omega arith

          kinds-on : r.kind ≡ 0 → elements.level ≤ 5
          kinds-on q = (going.opens (omega arith)).deep

          stands_on : Standing ns' bs' index' held' lens' s r.content.next.at t' r.elements
          stands_on =
              let m = going.elements-is in
              let i : Within (machine_of ns bs) next =
              judge-within (machine_of ns bs) (headed snapshot) now' (tag_of s t) (drop t.next.at s) (read (more next) (drop r.content.next.at s)) (rw e u.within) (judged_is ∙ on-is) in
              record {
                taking = taken.taking;
                names-size = names-many;
                lengths_size = lengths_many;
                words_size = rw m (moved_size elements t.element r.kind r.word u.words_size);
                few = rw m (moved_few elements t.element r.kind r.word u.few kinds-on);
                within = rw taken.machine i;
                high = going.high;
              }

          left-on : left_at ns' bs' held' lens' s r.content.next.at snapshot t' r.elements ≡ left_at ns bs held lens s at snapshot pending elements
          unfolding ◌>>=◌ go_on
          left-on = rw taken.machine (sym (left_is ∙ rw on-is))

-- What a tag says, by whether it closes ODM.
module _ (x : Telling) (s : List ℕ) (t : TagRead) (o : OpenElements) (v : Optional Told) (h : ToldBy x s t o (Ok v)) where
  pub told-end : v ≡ None → Halts x (Ok tt)
  told-end e = rw e at h

  pub told-on : (r : Told) → v ≡ Some r → Going x s t o r
  told-on r e = rw e at h

-- What an accepted tag asks for is done: something is taken.
module _ (a : Answer (List Change)) (ns bs ns' bs' index' : List ℕ) (v : Optional Pending) (h : DoneBy a ns bs ns' bs' index' (Ok v)) where
  pub done-on : (t : Pending) → v ≡ Some t → Changed a ns bs ns' bs' index' t
  done-on t e = rw e at h

-- So far the tags were accepted, of which all answer x; those from a place on decide.
pub record Underway (x : Answer (List Change)) (m : Machine) (s : List ℕ) (snapshot : Bool) (ns bs index : List ℕ) (pending : Pending) (elements : OpenElements) (held lens : List ℕ) (at : ℕ) : Type 0 where
  pub machine : machine_of ns bs ≡ m
  pub standing : Standing ns bs index held lens s at pending elements
  pub left : left_at ns bs held lens s at snapshot pending elements ≡ x

module _ (ns bs index : List ℕ) (pending : Pending) (s : List ℕ) (at : ℕ) (snapshot : Bool) (elements : OpenElements) (held lens : List ℕ) (b : Begins ns bs index pending) where
  pub underway_begins : at ≤ length s → elements ≡ none_open → length held ≡ 128 → length lens ≡ 8
      → Underway (read_from ns bs s at snapshot) (machine_of ns bs) s snapshot ns bs index pending elements held lens at
  unfolding frames_in sort_at pick
  underway_begins h n y z =
      let i : Within (machine_of ns bs) (progress [] [] (shown none)) = record { held = none_held (machine_of ns bs) (rules_of (machine_of ns bs) b.taking.loaded.rules); stack = tt } in
      record {
        machine = refl;
        standing = record {
          taking = b.taking;
          names-size = y;
          lengths_size = z;
          words_size = rw n refl;
          few = rw n (omega arith);
          within = rw (n, b.nothing) i;
          high = h;
        };
        left = rw (n, b.nothing);
      }

module _ (ns0 bs0 s : List ℕ) (at0 : ℕ) (snapshot : Bool) (ns bs index : List ℕ) (pending : Pending) (elements : OpenElements) (held lens : List ℕ) (at : ℕ)
    (u : Underway (read_from ns0 bs0 s at0 snapshot) (machine_of ns0 bs0) s snapshot ns bs index pending elements held lens at) where
  module _ (t : TagRead) (w : Tagged s (elements.level + 1) (at + 1) (next_tag (drop at s)) t) where
    pub underway-stops : (r : Result (Unit {0}) Refusal) → Halts (telling snapshot (place_in elements) s t) r → ReadTo ns0 bs0 s at0 snapshot ns bs pending r
    underway-stops r h = record { is = halted_is ns bs index held lens s at pending elements u.standing snapshot t w r h ∙ u.left; machine = u.machine; loaded = u.standing.taking.loaded }

    -- The tag is accepted without the store.
    module _ (r : Told) (going : Going (telling snapshot (place_in elements) s t) s t elements r) (held' : List ℕ) (ex : held' ≡ names_filled held s r.own) (lens' : List ℕ) (ey : lens' ≡ lengths_filled lens r.own) where
      pub underway_asks : Asking ns bs index pending s t r r.own.depth held' lens'
      underway_asks = may_ask ns bs index held lens s at pending elements u.standing snapshot t w r going held' lens' ex ey

      module _ (ns' bs' : List ℕ) where
        pub underway_refused : (n : Refusal) → Denied (asked_of ns bs pending s t r r.own.depth held' lens') n ns bs ns' bs' → ReadTo ns0 bs0 s at0 snapshot ns' bs' pending (Err n)
        underway_refused n b =
            record {
              is = denied-is ns bs index held lens s at pending elements u.standing snapshot t w r going held' lens' ex ey ns' bs' [] n b ∙ u.left;
              machine = rw (b.numbers, b.bytes) u.machine;
              loaded = rw (b.numbers, b.bytes) u.standing.taking.loaded;
            }

        module _ (index' : List ℕ) (t' : Pending) (b : ChangedBy (asked_of ns bs pending s t r r.own.depth held' lens') ns bs ns' bs' index' (Ok t')) where
          pub underway_on : Underway (read_from ns0 bs0 s at0 snapshot) (machine_of ns0 bs0) s snapshot ns' bs' index' t' r.elements held' lens' r.content.next.at
          underway_on =
              record {
                machine = b.machine ∙ u.machine;
                standing = stands_on ns bs index held lens s at pending elements u.standing snapshot t w r going held' lens' ex ey ns' bs' index' t' b;
                left = left-on ns bs index held lens s at pending elements u.standing snapshot t w r going held' lens' ex ey ns' bs' index' t' b ∙ u.left;
              }

          pub underway-less : length s - r.content.next.at < length s - at
          underway-less = read-less ns bs index held lens s at pending elements u.standing snapshot t w r going held' lens' ex ey ns' bs' index' t' b

-- Of the header the tags below ODM ask only whether the file is a Snapshot.
module _ (m : Machine) (h : Header) where
  pub tags-headed : (n : ℕ) (p : Progress) (s : List ℕ) → tags n m h p s ≡ tags n m (headed h.snapshot) p s
  unfolding tags judge
  tags-headed zero p s = refl
  tags-headed (suc n) p s =
      bind_same (next_tag s) _ _ (λ t e. bind_same (run m p (tell h.snapshot (place_of p) t.got t.rest)) _ _ (λ q f. go (tags-headed n) q.got q.rest))
    where
      go : ((p : Progress) (s : List ℕ) → tags n m h p s ≡ tags n m (headed h.snapshot) p s) → (q : Next) (r : List ℕ)
          → go_on q r (λ p'. tags n m h p' r) ≡ go_on q r (λ p'. tags n m (headed h.snapshot) p' r)
      go ih (more p') r = unfold go_on in ih p' r
      go ih (closed cs) r = unfold go_on in refl
