-- A file read as a whole, and settled.
use mathlib.Core.Path.{◌≡◌, refl, sym, ap, ◌∙◌}
use mathlib.Core.Bool.{Bool, true, false}
use mathlib.Core.List.{List, [], ◌++◌}
use Prim.Native.Nat.{ℕ, suc, ◌+◌, ◌-◌, ◌≤◌, ◌<◌}
use native.Mathlib.Omega.{arith}
use lib.Dec.{eqb}
use lib.ListN.{length, drop, length-append}
use borrow.Author.Tests.{eqb-true, eqb-false}
use Rattle.names.specs.Bytes.{bytes}
use Rattle.names.specs.Order.{begins}
use Rattle.names.specs.Pick.{pick}
use Rattle.names.proofs.Stretch.{begins_reaches}
use Rattle.names.proofs.Tests.{and_i}
use Rattle.store.specs.Answer.{Answer, refused, accepted, ◌>>=◌, unless}
use Rattle.store.specs.Calls.{outcome}
use Rattle.store.specs.Image.{Buffers, image, change_count}
use Rattle.store.specs.Machine.{Machine, changes_of, is_filed}
use Rattle.store.specs.Outcomes.{buffers}
use Rattle.store.specs.code.With.{numbers_with, filing}
use Rattle.store.proofs.Calls.Answers.{refused-accepted, accepted-same, bind_accepted}
use Rattle.reader.specs.Tag.{Read, Tag, opens, closes, skip, next_tag}
use Rattle.reader.specs.Element.{or_else}
use Rattle.reader.specs.code.ElementNames.{row_here}
use Rattle.reader.specs.code.Found.{attrs_of, Tagged}
use Rattle.reader.specs.Judge.{Header, header_of}
use Rattle.reader.specs.Import.{begun, declaration, body, is_nil, Contents, after_odm, from_first, contents}
use Rattle.reader.specs.declared.cursor.TagRead.{TagRead}
use Rattle.reader.proofs.Series.{Follows, odm_follows}
use Rattle.reader.specs.code.Answered.{said_as}
use Rattle.reader.specs.code.OdmTag.{Heads}
use Rattle.store.specs.code.Refusals.{number_of, said}
use Rattle.store.specs.declared.answer.Refusal.{Refusal}
use Rattle.store.specs.declared.answer.Refusal.TheVariants.{WrittenForm}
use Rattle.std.specs.Prelude.{Result, Ok, Err}
use Rattle.store.specs.code.Pending.{machine_of, added_at, Loaded, Begins}
use Rattle.reader.specs.code.Reads.{ReadTo}
use Rattle.reader.specs.code.Acting.{headed}
use Rattle.reader.specs.code.FileRead.{header_at, contents_at, filed_at, taken_at, FileTo, Ready}
use Rattle.reader.specs.declared.odm.HeaderPlaces.{HeaderPlaces}
use Rattle.store.specs.declared.pending.Pending.{Pending}
use Rattle.reader.proofs.ImportAnswers.{said-end}
use Rattle.reader.proofs.ImportTags.{opening-attributed, opening-row, tags-headed}
use Rattle.reader.proofs.ExpectedLaws.{strip-begins}

-- "Optionally first" the declaration.
module _ (s : List ℕ) (t : Bool) (e : t ≡ begins eqb (bytes "<?xml version=\"1.0\" encoding=\"UTF-8\"?>") (drop 0 s)) where
  pub behind-declaration : t ≡ true → drop 38 s ≡ body s
  unfolding body declaration or_else pick
  behind-declaration f = rw (strip-begins (bytes "<?xml version=\"1.0\" encoding=\"UTF-8\"?>") s, ← e, f)

  pub declaration-inside : t ≡ true → 38 ≤ length s
  declaration-inside f = begins_reaches eqb (bytes "<?xml version=\"1.0\" encoding=\"UTF-8\"?>") s (sym e ∙ f)

  pub no-declaration : t ≡ false → drop 0 s ≡ body s
  unfolding body declaration or_else pick
  no-declaration f = rw (strip-begins (bytes "<?xml version=\"1.0\" encoding=\"UTF-8\"?>") s, ← e, f)

pub ruleset body-laws = (behind-declaration, declaration-inside, no-declaration)

-- Of the header what follows asks only whether the file is a Snapshot.
after-headed : (m : Machine) (h : Header) (empty : Bool) (s : List ℕ) → after_odm empty m h s ≡ after_odm empty m (headed h.snapshot) s
unfolding after_odm
after-headed m h true s = refl
after-headed m h false s = tags-headed m h (suc (length s)) begun s

-- What follows the ODM tag says with its header.
abbrev with_head : HeaderPlaces → Result (Unit {0}) Refusal → Result HeaderPlaces Refusal
with_head h (Ok u) = Ok h
with_head h (Err k) = Err k

-- The first tag, and what it leaves to be read.
module _ (ns bs index : List ℕ) (pending : Pending) (g : Begins ns bs index pending) (s : List ℕ) (b : ℕ) (e : drop b s ≡ body s) (t : TagRead)
    (w : Tagged s 0 (b + 1) (next_tag (drop b s)) t) where
  -- The file stops there, refused.
  stops : (k : Refusal) → contents (machine_of ns bs) s ≡ refused (number_of k) → FileTo ns bs s ns bs pending (Err k)
  stops k c = record { is = sym c; machine = refl; loaded = g.taking.loaded; sited = tt }

  pub head_none : 2 ≤ t.kind → FileTo ns bs s ns bs pending (Err WrittenForm)
  unfolding contents from_first ◌>>=◌
  head_none h = stops WrittenForm (go (eqb t.kind 2) refl)
    where
      go : (x : Bool) → eqb t.kind 2 ≡ x → contents (machine_of ns bs) s ≡ refused 4
      go true i = rw (← e, w.closing (eqb-true t.kind 2 i))
      go false i = let n = eqb-false t.kind 2 i in let k = w.kinds in let j : t.kind ≡ 3 = omega arith in rw (← e, w.broken j)

  module _ (k : t.kind < 2) where
    -- What the file holds, by the ODM tag.
    rest : Header → Answer Contents
    rest x = after_odm (eqb t.kind 1) (machine_of ns bs) x (drop t.next.at s) >>= λ cs. accepted record { header = x; changes = cs }

    first : (r : Result HeaderPlaces Refusal) → Heads ns bs s t r → contents (machine_of ns bs) s ≡ (said_as (λ _. header_of (attrs_of s t)) r >>= rest)
    unfolding contents from_first rest ◌>>=◌
    first r d = rw (← e, (w.opening k).is, d.is)

    pub head_denied : (n : Refusal) → Heads ns bs s t (Err n) → FileTo ns bs s ns bs pending (Err n)
    unfolding ◌>>=◌
    head_denied n d = stops n (first (Err n) d)

    module _ (h : HeaderPlaces) (d : Heads ns bs s t (Ok h)) where
      header_is : header_at s h ≡ header_of (attrs_of s t)
      header_is = rw (d.head.oid, d.head.date, d.head.snapshot)

      after_first : contents (machine_of ns bs) s ≡ (after_odm (eqb t.kind 1) (machine_of ns bs) (headed h.snapshot) (drop t.next.at s) >>= λ cs. accepted record { header = header_at s h; changes = cs })
      unfolding ◌>>=◌ rest
      after_first = first (Ok h) d ∙ (ap rest (sym header_is) ∙ rw (after-headed (machine_of ns bs) (header_at s h) (eqb t.kind 1) (drop t.next.at s)))

      -- The tags behind it are read too;
      pub head_opens : t.kind ≡ 0 → (ns' bs' : List ℕ) (t' : Pending) (r : Result (Unit {0}) Refusal) → ReadTo ns bs s t.next.at h.snapshot ns' bs' t' r → FileTo ns bs s ns' bs' t' (with_head h r)
      unfolding after_odm ◌>>=◌
      head_opens o ns' bs' t' (Ok u) a = record { is = sym (after_first ∙ rw (o, ← a.is)); machine = a.machine; loaded = a.loaded; sited = d.head.sited }
      head_opens o ns' bs' t' (Err n) a = record { is = sym (after_first ∙ rw (o, ← a.is)); machine = a.machine; loaded = a.loaded; sited = tt }

      -- or it is self-closing.
      pub head_ends : (t.kind ≡ 0 → ⊥) → (r : Result (Unit {0}) Refusal) → said r ≡ unless (is_nil (skip (drop t.next.at s))) 4 → FileTo ns bs s ns bs pending (with_head h r)
      unfolding after_odm ◌>>=◌
      head_ends o (Ok u) a =
          let y : t.kind ≡ 1 = omega arith in
          record { is = sym (after_first ∙ rw (y, ← said-end (Ok u) (drop t.next.at s) [] a, ← g.nothing)); machine = refl; loaded = g.taking.loaded; sited = d.head.sited }
      head_ends o (Err n) a =
          let y : t.kind ≡ 1 = omega arith in
          record { is = sym (after_first ∙ rw (y, ← said-end (Err n) (drop t.next.at s) [] a)); machine = refl; loaded = g.taking.loaded; sited = tt }

-- It is looked up in ODM's row.
pub first-row : (s : List ℕ) (from : ℕ) (o : Answer (Read Tag)) (t : TagRead) → Tagged s 0 from o t → t.kind < 2 → t.element ≡ 0
unfolding row_here pick
first-row s from o t w h = opening-row s 0 from o t w h

pub ruleset first-tag = (opening-attributed, first-row)

-- The header of an accepted file goes on the series.
module _ (m : Machine) where
  first-follows : (t : Tag) (s : List ℕ) (c : Contents) → from_first m t s ≡ accepted c → Follows m.files c.header
  unfolding from_first
  first-follows (closes n) s c e = absurd (refused-accepted 4 c e)
  first-follows (opens n as' self) s c e =
      let h = bind_accepted _ _ c e in
      let cs = bind_accepted _ _ c h.2 in
      rw (← accepted-same cs.2) (odm_follows m n as' h.0 h.1)

  contents-follows : (s : List ℕ) (c : Contents) → contents m s ≡ accepted c → Follows m.files c.header
  unfolding contents
  contents-follows s c e = let b = bind_accepted _ _ c e in first-follows b.0.got b.0.rest c b.2

pub ready : (ns bs s ns' bs' : List ℕ) (t' : Pending) (h : HeaderPlaces) → FileTo ns bs s ns' bs' t' (Ok h) → Ready ns' bs' s t' h
unfolding is_filed
ready ns bs s ns' bs' t' h w =
    let follows : Follows (machine_of ns bs).files (header_at s h) = contents-follows (machine_of ns bs) s (contents_at ns' bs' s t' h) (sym w.is) in
    record { loaded = w.loaded; sited = w.sited; room = rw w.machine follows.room; formed = and_i _ _ follows.oid follows.date }

-- How many changes the file added.
added-count : (ns bs : List ℕ) (t : Pending) → Loaded ns bs t → t.changes ≡ change_count ns + length (added_at ns bs t.changes)
unfolding numbers_with
added-count ns bs t l =
    let m = machine_of ns bs in
    let before : change_count ns ≡ length (changes_of m.files) = ap change_count l.holds.numbers in
    let all : t.changes ≡ length (changes_of m.files ++ added_at ns bs t.changes) = l.holds.changes ∙ ap length l.joined in
    rw before (all ∙ length-append (changes_of m.files) (added_at ns bs t.changes))

module _ (ns bs s : List ℕ) (t : Pending) (h : HeaderPlaces) (r : Ready ns bs s t h) where
  pub changes-before : change_count ns ≤ t.changes
  changes-before = let c = added-count ns bs t r.loaded in omega arith

  pub settle-accepted : (ns' bs' : List ℕ) → buffers ns' bs' ≡ image (filing (machine_of ns bs) (filed_at ns bs s t h))
      → record { refusal = 0; count = t.changes - change_count ns; buffers = buffers ns' bs' }
      ≡ outcome (image (machine_of ns bs)) (accepted (taken_at ns bs s t h))
  unfolding outcome
  settle-accepted ns' bs' e =
      let c = added-count ns bs t r.loaded in
      let n : t.changes - change_count ns ≡ length (added_at ns bs t.changes) = omega arith in
      ap (λ (b : Buffers). record { refusal = 0; count = t.changes - change_count ns; buffers = b }) e ∙ rw n
