-- An accepted import keeps the machine's rules and adds one file; a withdrawal takes that file away again.
use mathlib.Core.Path.{◌≡◌, refl, sym, ◌∙◌}
use mathlib.Core.List.{List, [], ◌∷◌, ◌++◌, append-nil}
use mathlib.Core.Bool.{Bool, true, false}
use Prim.Native.Nat.{ℕ, suc, ◌≤◌}
use native.Mathlib.Omega.{arith}
use lib.ListN.{length, length-append}
use borrow.Author.Tests.{le-leb, leb-true}
use Rattle.names.specs.Order.{same}
use Rattle.names.proofs.Tests.{and_i, all_append, all_one}
use Rattle.store.specs.Answer.{accepted, ◌>>=◌, ◌>>◌, unless, present}
use Rattle.store.specs.Change.{Change}
use Rattle.store.specs.Machine.{Filed, Machine, changes_of, is_filed, in_turn, obeys, files_most, with_files}
use Rattle.store.specs.Calls.{Accepted, strike, withdraw}
use Rattle.store.proofs.Calls.Answers.{refused-accepted, accepted-same, bind_accepted, then_accepted}
use Rattle.reader.specs.Tag.{Tag, opens, closes}
use Rattle.reader.specs.Judge.{Header}
use Rattle.reader.specs.Import.{begun, Contents, after_odm, from_first, contents, with_file, import_file}
use Rattle.reader.proofs.Loop.{at_end-same, tags_keep}
use Rattle.reader.proofs.Series.{Follows, odm_follows, distinct_snoc, never_fall_snoc}
use Rattle.reader.specs.code.Keeping.{Held, Within}
use Rattle.reader.proofs.Invariant.{judge-within}
use Rattle.store.proofs.Tables.InTurn.{in_turn-append}
use Rattle.store.proofs.Tables.OneChange.{changes_of-append}
use Rattle.store.proofs.Lists.LastOf.{without_last_snoc, last_filed_snoc}
use Rattle.store.proofs.Images.Rules.{Rules, rules_of, obeys_by}

module _ (m : Machine) (r : Rules m) where
  -- No change so far.
  pub none_held : Held m []
  unfolding in_turn
  none_held = record { turn = refl; many = rw append-nil (le-leb _ _ r.few-changes); long = rw append-nil (le-leb _ _ r.few_bytes) }

  after-held : (self : Bool) (h : Header) (s : List ℕ) (cs : List Change) → after_odm self m h s ≡ accepted cs → Held m cs
  unfolding after_odm
  after-held true h s cs e = rw (← at_end-same s [] cs e) none_held
  after-held false h s cs e =
      tags_keep m h (Within m) (Held m) (judge-within m h) (suc (length s)) begun s cs record { held = none_held; stack = tt } e

  first-held : (t : Tag) (s : List ℕ) (c : Contents) → from_first m t s ≡ accepted c → Follows m.files c.header × Held m c.changes
  unfolding from_first
  first-held (closes n) s c e = absurd (refused-accepted 4 c e)
  first-held (opens n as' self) s c e =
      let h = bind_accepted _ _ c e in
      let cs = bind_accepted _ _ c h.2 in
      rw (← accepted-same cs.2) (odm_follows m n as' h.0 h.1, after-held self h.0 s cs.0 cs.1)

  file-rules : (c : Contents) → Follows m.files c.header → Held m c.changes → Rules (with_file m c)
  unfolding with_file changes_of is_filed
  file-rules c f h =
      let g : Filed = record { oid = c.header.oid; date = c.header.date; changes = c.changes } in
      let all-changes : changes_of (m.files ++ g ∷ []) ≡ changes_of m.files ++ c.changes = rw (changes_of-append, append-nil) in
      let few : length (m.files ++ g ∷ []) ≤ files_most = let room = f.room in rw length-append (omega arith) in
      record {
        study = r.study;
        version = r.version;
        few-files = few;
        filed = all_append is_filed m.files (g ∷ []) r.filed (all_one is_filed g (and_i _ _ f.oid f.date));
        distinct_oids = distinct_snoc g m.files r.distinct_oids f.new;
        dates = never_fall_snoc g m.files r.dates f.later;
        few-changes = rw all-changes (leb-true _ _ h.many);
        few_bytes = rw all-changes (leb-true _ _ h.long);
        turns = rw (all-changes, in_turn-append) (and_i _ _ r.turns h.turn);
      }

pub import_obeys : (m : Machine) (s : List ℕ) (t : Accepted) → obeys m ≡ true → import_file m s ≡ accepted t → obeys t.machine ≡ true
unfolding import_file contents
import_obeys m s t o e =
    let c = bind_accepted _ _ t e in
    let d = then_accepted _ 3 _ c.0 c.1 in
    let b = bind_accepted _ _ c.0 d.1 in
    let r = rules_of m o in
    let h = first-held m r b.0.got b.0.rest c.0 b.2 in
    rw (← accepted-same c.2) (obeys_by (with_file m c.0) (file-rules m r c.0 h.0 h.1))

-- The machine with one more standing file.
abbrev pub one_more : Machine → Filed → Machine
one_more m f = with_files m (m.files ++ f ∷ [])

-- An accepted import adds one file, and its count is that file's changes.
pub import_adds : (m : Machine) (s : List ℕ) (t : Accepted) → import_file m s ≡ accepted t → (f : Filed) × (t.machine ≡ one_more m f) × (t.count ≡ length f.changes)
unfolding import_file with_file
import_adds m s t e =
    let c = bind_accepted _ _ t e in
    let f : Filed = record { oid = c.0.header.oid; date = c.0.header.date; changes = c.0.changes } in
    rw (← accepted-same c.2) (f, refl, refl)

-- The last file is withdrawn by its FileOID and by no other; the machine is then as before it.
pub withdraw_last : (m : Machine) (f : Filed) (oid : List ℕ) → withdraw (one_more m f) oid
    ≡ (unless (same oid f.oid) 15 >> accepted record { count = length f.changes; machine = m })
unfolding withdraw strike present ◌>>=◌
withdraw_last m f oid = rw (last_filed_snoc, without_last_snoc)

pub withdraw_import : (m : Machine) (s oid : List ℕ) (t u : Accepted) → import_file m s ≡ accepted t → withdraw t.machine oid ≡ accepted u → (u.machine ≡ m) × (u.count ≡ t.count)
withdraw_import m s oid t u e w =
    let a = import_adds m s t e in
    let b = then_accepted _ 15 _ u (sym (withdraw_last m a.0 oid) ∙ rw a.1 at w) in
    rw (← accepted-same b.1) (refl, sym a.2)
