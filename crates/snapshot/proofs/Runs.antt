-- Runs: a list of calls on the image of a machine, the files that stand after it, and the machine that took them.
use mathlib.Core.Path.{◌≡◌, refl, sym, ap, ◌∙◌}
use mathlib.Core.Bool.{true}
use mathlib.Core.List.{List, [], ◌∷◌, ◌++◌}
use Prim.Native.Nat.{ℕ, ◌<◌, ◌≤◌}
use native.Mathlib.Omega.{arith}
use borrow.Author.Tests.{ne_eqb, leb-true}
use lib.Dec.{eqb, leb, lit<}
use lib.ListN.{length, take}
use Rattle.names.specs.Date.{is_date}
use Rattle.names.specs.Name.{is_long_name}
use Rattle.names.specs.Overwrite.{overwrite}
use Rattle.names.specs.Pick.{pick, ◌and◌}
use Rattle.names.proofs.OverwriteLaws.{overwrite-text}
use Rattle.names.proofs.Ordered.{key-less}
use Rattle.names.proofs.Tests.{and_l, and_r}
use Rattle.store.specs.Answer.{Answer, refused, accepted, ◌>>=◌, ◌>>◌, unless, present}
use Rattle.store.specs.Machine.{Machine, changes_of, obeys, empty, last_filed, with_files}
use Rattle.store.specs.Image.{Buffers, image}
use Rattle.store.specs.Calls.{Accepted, outcome, open_empty, withdraw, withdraw_call, without_last}
use Rattle.store.proofs.Calls.Answers.{refused-accepted, accepted-same, bind_accepted, then_accepted, both-accepted, unless-accepted}
use Rattle.store.proofs.Calls.Refusals.{Named, taken, named_bind, named_then, named-unless, named-present, not_zero}
use Rattle.reader.specs.Import.{import_file, import_call, file_most, contents, with_file}
use Rattle.reader.proofs.Refusals.{import_named}
use Rattle.snapshot.specs.Snapshot.{written_to, snapshot, snapshot_text, snapshot_call}
use Rattle.snapshot.specs.Demand3.{Lives, Restores}
use Rattle.snapshot.specs.Chain.{Call, importing, withdrawing, snapshotting, replied, call, buffers_after, still_standing, standing_after, takes, answers}
use mathlib.Core.Logic.{⊎_elim}
use Rattle.store.proofs.Images.Lengths.{opened-image}
use Rattle.store.proofs.Images.Rules.{rules_of}
use Rattle.store.proofs.Tables.EveryEntity.{every_at}
use Rattle.store.proofs.Tables.Sorted.{ascending_behind, table_ascending}
use Rattle.store.proofs.Tables.TableSays.{table-says}
use Rattle.store.proofs.Lists.LastOf.{without_last_snoc, last_split}
use Rattle.reader.proofs.ImportRules.{import_obeys, withdraw_import}
use Rattle.snapshot.proofs.Restores.{restores}
use Rattle.snapshot.proofs.TableOf.{table_facts}

-- The state of a run from a first machine on: the buffers, the standing files, and their machine.
pub record Good (first : Machine) (b : Buffers) (fs : List (List ℕ)) (m : Machine) : Type 0 where
  pub holds : b ≡ image m
  pub rules : obeys m ≡ true
  pub took : takes first fs ≡ accepted m

-- A call on the image of a machine answers as the machine.
call-answered : (m : Machine) → obeys m ≡ true → (c : Call) → call (image m) c ≡ answers m c
unfolding call answers import_call withdraw_call snapshot_call ◌>>=◌
call-answered m h (importing f) = rw (opened-image m h)
call-answered m h (withdrawing oid) = rw (opened-image m h)
call-answered m h (snapshotting oid date out) = rw (opened-image m h)

takes_one : (m : Machine) (f : List ℕ) (fs : List (List ℕ)) (t : Accepted) → import_file m f ≡ accepted t → takes m (f ∷ fs) ≡ takes t.machine fs
unfolding takes ◌>>=◌
takes_one m f fs t i = rw i

takes-append : (m : Machine) (fs : List (List ℕ)) (f : List ℕ) (n : Machine) (t : Accepted) → takes m fs ≡ accepted n → import_file n f ≡ accepted t
    → takes m (fs ++ f ∷ []) ≡ accepted t.machine
unfolding takes ◌>>=◌
takes-append m [] f n t e i = rw (accepted-same e, i)
takes-append m (g ∷ fs) f n t e i =
    let s = bind_accepted (import_file m g) (λ t. takes t.machine fs) n e in
    takes_one m g (fs ++ f ∷ []) s.0 s.1 ∙ takes-append s.0.machine fs f n t s.2 i

takes_split : (m : Machine) (fs : List (List ℕ)) (f : List ℕ) (n : Machine) → takes m (fs ++ f ∷ []) ≡ accepted n
    → (p : Machine) × (t : Accepted) × (takes m fs ≡ accepted p) × (import_file p f ≡ accepted t) × (t.machine ≡ n)
unfolding takes ◌>>=◌
takes_split m [] f n e = let s = bind_accepted (import_file m f) (λ t. accepted t.machine) n e in (m, s.0, refl, s.1, accepted-same s.2)
takes_split m (g ∷ fs) f n e =
    let s = bind_accepted (import_file m g) (λ t. takes t.machine (fs ++ f ∷ [])) n e in
    let r = takes_split s.0.machine fs f n s.2 in
    (r.0, r.1, takes_one m g fs s.0 s.1 ∙ r.2, r.3, r.4)

takes-obeys : (m : Machine) (fs : List (List ℕ)) (n : Machine) → obeys m ≡ true → takes m fs ≡ accepted n → obeys n ≡ true
unfolding takes
takes-obeys m [] n h e = rw (accepted-same e) at h
takes-obeys m (f ∷ fs) n h e =
    let s = bind_accepted (import_file m f) (λ t. takes t.machine fs) n e in
    takes-obeys s.0.machine fs n (import_obeys m f s.0 h s.1) s.2

-- No file was taken, so none can be struck.
none_taken : (m n : Machine) → takes m [] ≡ accepted n → m ≡ n
unfolding takes
none_taken m n e = accepted-same e

none_struck : (m : Machine) (oid : List ℕ) (u : Accepted) → m.files ≡ [] → withdraw m oid ≡ accepted u → ⊥
unfolding withdraw last_filed present ◌>>=◌
none_struck m oid u n e = refused-accepted 15 u (rw n at e)

withdraw-named : (m : Machine) (oid : List ℕ) → Named (withdraw m oid)
unfolding withdraw
withdraw-named m oid = named_bind _ _ (named-present _ 15 (lit< tt)) (λ f. named_then _ _ (named-unless _ 15 (lit< tt)) taken)

snapshot-named : (m : Machine) (oid date : List ℕ) (room : ℕ) → Named (snapshot m oid date room)
unfolding snapshot
snapshot-named m oid date room = named_then _ _ (named_then _ _ (named-unless _ 7 (lit< tt)) (named-unless _ 14 (lit< tt))) taken

snapshot-accepted : (m : Machine) (oid date : List ℕ) (room : ℕ) (s : List ℕ) → snapshot m oid date room ≡ accepted s
    → ((is_long_name oid and is_date date) ≡ true) × (length (snapshot_text m oid date) ≤ room) × (s ≡ snapshot_text m oid date)
unfolding snapshot
snapshot-accepted m oid date room s e =
    let p = both-accepted (unless (is_long_name oid and is_date date) 7 >> unless (leb (length (snapshot_text m oid date)) room) 14) (accepted (snapshot_text m oid date)) s e in
    let q = then_accepted (is_long_name oid and is_date date) 7 (unless (leb (length (snapshot_text m oid date)) room) 14) p.0 p.1 in
    (q.0, leb-true (length (snapshot_text m oid date)) room (unless-accepted (leb (length (snapshot_text m oid date)) room) 14 p.0 q.1), sym (accepted-same p.2))

-- What was written at the start of an output is read there.
overwritten : (out s : List ℕ) → length s ≤ length out → take (length s) (overwrite out 0 s) ≡ s
overwritten out s h = overwrite-text out 0 s (omega arith)

snapshot-on : (m : Machine) (oid date out : List ℕ) (b : Buffers) → b ≡ image m → obeys m ≡ true → snapshot_call b oid date out ≡ written_to (image m) out (snapshot m oid date (length out))
unfolding snapshot_call ◌>>=◌
snapshot-on m oid date out b e h = rw (e, opened-image m h)

-- All but the standing files stays.
import_fixed : (m : Machine) (s : List ℕ) (t : Accepted) → import_file m s ≡ accepted t → with_files t.machine [] ≡ with_files m []
unfolding import_file with_file
import_fixed m s t e =
    let p = bind_accepted (unless (leb (length s) file_most) 3 >> contents m s) (λ c. accepted record { count = length c.changes; machine = with_file m c }) t e in
    sym (ap (λ (x : Accepted). with_files x.machine []) (accepted-same p.2))

takes_fixed : (m : Machine) (fs : List (List ℕ)) (n : Machine) → takes m fs ≡ accepted n → with_files n [] ≡ with_files m []
unfolding takes
takes_fixed m [] n e = sym (ap (λ (x : Machine). with_files x []) (accepted-same e))
takes_fixed m (f ∷ fs) n e =
    let s = bind_accepted (import_file m f) (λ t. takes t.machine fs) n e in
    takes_fixed s.0.machine fs n s.2 ∙ import_fixed m f s.0 s.1

pub open_named : (b : Buffers) (study version : List ℕ) → Named (open_empty b study version)
unfolding open_empty
open_named b study version = named_then _ _ (named_then _ _ (named-unless _ 1 (lit< tt)) (named-unless _ 7 (lit< tt))) taken

-- A snapshot leaves the store as it is.
store_kept : (b : Buffers) (out : List ℕ) (x : Answer (List ℕ)) → (written_to b out x).buffers ≡ b
unfolding written_to
store_kept b out (refused n) = refl
store_kept b out (accepted s) = refl

-- The live table of any machine.
pub machine-lives : (m : Machine) → Lives m
machine-lives m = record {
  exactly = table-says (changes_of m.files);
  ordered = λ xs ys zs e f s.
      let l = every_at _ ys f zs (ascending_behind xs e (ys ++ f ∷ zs) (rw s at (table_ascending (changes_of m.files)))) in
      (l, key-less e.key f.key l);
}

-- One call more.
module _ (first : Machine) (no-file : first.files ≡ []) (start : obeys first ≡ true) where
  kept : (fs gs : List (List ℕ)) (n : ℕ) → 0 < n → pick (eqb n 0) gs fs ≡ fs
  unfolding pick
  kept fs gs n h = rw (ne_eqb n 0 (λ e. omega arith))

  import_step : (m : Machine) (fs : List (List ℕ)) (f : List ℕ) → Good first (image m) fs m → (x : Answer Accepted) → import_file m f ≡ x
      → (n : Machine) × Good first (outcome (image m) x).buffers (pick (eqb (outcome (image m) x).refusal 0) (fs ++ f ∷ []) fs) n
  unfolding outcome pick
  import_step m fs f g (refused k) e = (m, rw (kept fs (fs ++ f ∷ []) k (not_zero (import_file m f) k (import_named m f) e)) g)
  import_step m fs f g (accepted t) e = (t.machine, accepted_good)
    where
      accepted_good : Good first (image t.machine) (pick (eqb 0 0) (fs ++ f ∷ []) fs) t.machine
      accepted_good = record { holds = refl; rules = import_obeys m f t g.rules e; took = takes-append first fs f m t g.took e }

  -- The last standing file is struck: the machine is the one before it.
  struck_last : (m : Machine) (gs : List (List ℕ)) (f oid : List ℕ) (u : Accepted) → takes first (gs ++ f ∷ []) ≡ accepted m → withdraw m oid ≡ accepted u
      → Good first (image u.machine) (without_last (gs ++ f ∷ [])) u.machine
  struck_last m gs f oid u k e =
      let s = takes_split first gs f m k in
      let same-machine : u.machine ≡ s.0 = (withdraw_import s.0 f oid s.1 u s.3 (rw s.4 e)).0 in
      record {
        holds = refl;
        rules = rw same-machine (takes-obeys first gs s.0 start s.2);
        took = rw (without_last_snoc gs f, same-machine) s.2;
      }

  struck_good : (m : Machine) (fs : List (List ℕ)) (oid : List ℕ) (u : Accepted) → takes first fs ≡ accepted m → withdraw m oid ≡ accepted u
      → Good first (image u.machine) (without_last fs) u.machine
  struck_good m fs oid u k e =
      ⊎_elim
      (λ z. absurd (none_struck first oid u no-file (rw (sym (none_taken first m (rw z at k))) at e)))
      (λ r. rw r.2 (struck_last m r.0 r.1 oid u (rw r.2 at k) e))
      (last_split fs)

  withdraw_step : (m : Machine) (fs : List (List ℕ)) (oid : List ℕ) → Good first (image m) fs m → (x : Answer Accepted) → withdraw m oid ≡ x
      → (n : Machine) × Good first (outcome (image m) x).buffers (pick (eqb (outcome (image m) x).refusal 0) (without_last fs) fs) n
  unfolding outcome pick
  withdraw_step m fs oid g (refused k) e = (m, rw (kept fs (without_last fs) k (not_zero (withdraw m oid) k (withdraw-named m oid) e)) g)
  withdraw_step m fs oid g (accepted u) e = (u.machine, struck_good m fs oid u g.took e)

  -- Any call, on the image of the machine.
  image_step : (m : Machine) (fs : List (List ℕ)) → Good first (image m) fs m → (c : Call)
      → (n : Machine) × Good first (answers m c).buffers (still_standing fs c (answers m c).refusal) n
  unfolding answers replied still_standing
  image_step m fs g (importing f) = import_step m fs f g (import_file m f) refl
  image_step m fs g (withdrawing oid) = withdraw_step m fs oid g (withdraw m oid) refl
  image_step m fs g (snapshotting oid date out) = (m, rw (store_kept (image m) out (snapshot m oid date (length out))) g)

  moved : (b : Buffers) (fs : List (List ℕ)) (m : Machine) → Good first b fs m → Good first (image m) fs m
  moved b fs m g = record { holds = refl; rules = g.rules; took = g.took }

  call-answers : (b : Buffers) (fs : List (List ℕ)) (m : Machine) → Good first b fs m → (c : Call) → call b c ≡ answers m c
  call-answers b fs m g c = rw g.holds (call-answered m g.rules c)

  step : (b : Buffers) (fs : List (List ℕ)) (m : Machine) → Good first b fs m → (c : Call)
      → (n : Machine) × Good first (call b c).buffers (still_standing fs c (call b c).refusal) n
  step b fs m g c = rw (call-answers b fs m g c) (image_step m fs (moved b fs m g) c)

  -- Every list of calls.
  all_good : (cs : List Call) (b : Buffers) (fs : List (List ℕ)) (m : Machine) → Good first b fs m
      → (n : Machine) × Good first (buffers_after b cs) (standing_after fs b cs) n
  unfolding buffers_after standing_after
  all_good [] b fs m g = (m, g)
  all_good (c ∷ cs) b fs m g = let s = step b fs m g c in all_good cs (call b c).buffers (still_standing fs c (call b c).refusal) s.0 s.1

  started : Good first (image first) [] first
  unfolding takes
  started = record { holds = refl; rules = start; took = refl }

  pub good : (cs : List Call) → (n : Machine) × Good first (buffers_after (image first) cs) (standing_after [] (image first) cs) n
  good cs = all_good cs (image first) [] first started

  -- (2): what stands before a call of the list.
  pub each-call : (cs xs ys : List Call) (c : Call) → cs ≡ xs ++ c ∷ ys
      → (before : Machine) × (takes first (standing_after [] (image first) xs) ≡ accepted before)
      × (call (buffers_after (image first) xs) c ≡ answers before c)
  each-call cs xs ys c e =
      let g = good xs in
      (g.0, g.1.took, call-answers (buffers_after (image first) xs) (standing_after [] (image first) xs) g.0 g.1 c)

  -- (4): a snapshot that was accepted is the text, at the start of its output.
  text-read : (b : Buffers) (m : Machine) (oid date out : List ℕ) (x : Answer (List ℕ)) → snapshot m oid date (length out) ≡ x → (written_to b out x).refusal ≡ 0
      → (is_long_name oid ≡ true) × (is_date date ≡ true) × (take (written_to b out x).count (written_to b out x).output ≡ snapshot_text m oid date)
  unfolding written_to
  text-read b m oid date out (refused n) f e = let h = not_zero (snapshot m oid date (length out)) n (snapshot-named m oid date (length out)) f in absurd (omega arith)
  text-read b m oid date out (accepted s) f e =
      let p = snapshot-accepted m oid date (length out) s f in
      (and_l _ _ p.0, and_r (is_long_name oid) _ p.0, rw p.2 (overwritten out (snapshot_text m oid date) p.1))

  imported-back : (m : Machine) → with_files m [] ≡ first → (oid date : List ℕ) → obeys m ≡ true → is_long_name oid ≡ true → is_date date ≡ true
      → Restores m (import_call (image first) (snapshot_text m oid date))
  unfolding import_call outcome ◌>>=◌
  imported-back m same oid date h o d =
      let r = restores m oid date (table_facts (changes_of m.files) (rules_of m h).turns (rules_of m h).few_bytes) h o d in
      let e : import_file first (snapshot_text m oid date) ≡ accepted r.0 = rw (← same) (unfold empty in r.1) in
      rw (opened-image first start, e)
      (record { accepted' = refl; counted = r.3; restored = r.0.machine; left = refl; same_live = r.4; lives = machine-lives r.0.machine })

  emptied : (fs : List (List ℕ)) (m : Machine) → takes first fs ≡ accepted m → with_files m [] ≡ first
  emptied fs m e = takes_fixed first fs m e ∙ ap (with_files first) (sym no-file)

  pub restoring_good : (cs : List Call) (oid date out : List ℕ) → (snapshot_call (buffers_after (image first) cs) oid date out).refusal ≡ 0
      → let w = snapshot_call (buffers_after (image first) cs) oid date out in
      Restores (good cs).0 (import_call (image first) (take w.count w.output))
  restoring_good cs oid date out e =
      let b = buffers_after (image first) cs in
      let m = (good cs).0 in
      let g = (good cs).1 in
      let called : snapshot_call b oid date out ≡ written_to (image m) out (snapshot m oid date (length out)) = snapshot-on m oid date out b g.holds g.rules in
      let r = text-read (image m) m oid date out (snapshot m oid date (length out)) refl (rw called at e) in
      rw (called, r.2) (imported-back m (emptied (standing_after [] (image first) cs) m g.took) oid date g.rules r.0 r.1)
