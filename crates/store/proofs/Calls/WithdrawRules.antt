-- The last standing file: what Withdraw answers by it, and that the machine without it obeys the rules.
use mathlib.Core.Path.{◌≡◌, refl, sym, ◌∙◌, ap}
use mathlib.Core.Bool.{Bool, true, false, not, ◌||◌, false≢true}
use mathlib.Core.List.{List, [], ◌∷◌, ◌++◌}
use mathlib.Core.Option.{none, some}
use Prim.Native.Nat.{ℕ, ◌≤◌}
use native.Mathlib.Omega.{arith}
use lib.ListN.{length, length-append}
use Rattle.names.specs.Bytes.{any}
use Rattle.names.specs.Date.{not_later}
use Rattle.names.specs.Order.{same}
use Rattle.names.proofs.Ordered.{same_eq}
use Rattle.names.proofs.Tests.{and_l, and_r, and_i, all_head, all_left, all_right}
use Rattle.store.specs.Answer.{refused, accepted, ◌>>=◌, ◌>>◌, unless, present}
use Rattle.store.specs.Calls.{Accepted, without_last, strike, withdraw}
use Rattle.store.specs.Change.{changes_bytes}
use Rattle.store.specs.Machine.{Filed, Machine, changes_of, is_filed, standing, last_filed, distinct, never_fall, obeys, changes_most, bytes_most, with_files}
use Rattle.store.proofs.Calls.Answers.{bind_accepted, then_accepted, present-accepted, accepted-same}
use Rattle.store.proofs.Images.PartWrites.{changes_of-more}
use Rattle.store.proofs.Images.Rules.{rules_of, obeys_by}
use Rattle.store.proofs.Images.ImageParts.{filing, Room}
use Rattle.store.proofs.Tables.OneChange.{changes_bytes-append}
use Rattle.store.proofs.Tables.InTurn.{in_turn-front}
use Rattle.store.proofs.Lists.LastOf.{last_filed_snoc, without_last_snoc}

-- The first files of a list that passes a rule pass it.
standing-left : (oid : List ℕ) (fs gs : List Filed) → not (standing oid (fs ++ gs)) ≡ true → not (standing oid fs) ≡ true
unfolding standing any
standing-left oid [] gs e = refl
standing-left oid (f ∷ fs) gs e = go (same oid f.oid) (standing-left oid fs gs) e
  where
    go : (t : Bool) → (not (standing oid (fs ++ gs)) ≡ true → not (standing oid fs) ≡ true) → not (t || standing oid (fs ++ gs)) ≡ true → not (t || standing oid fs) ≡ true
    go true ih e = absurd (false≢true e)
    go false ih e = ih e

pub distinct-left : (fs gs : List Filed) → distinct (fs ++ gs) ≡ true → distinct fs ≡ true
unfolding distinct
distinct-left [] gs e = refl
distinct-left (f ∷ fs) gs e =
    and_i (not (standing f.oid fs)) _ (standing-left f.oid fs gs (and_l _ _ e)) (distinct-left fs gs (and_r (not (standing f.oid (fs ++ gs))) _ e))

pub never_fall-left : (fs gs : List Filed) → never_fall (fs ++ gs) ≡ true → never_fall fs ≡ true
unfolding never_fall
never_fall-left [] gs e = refl
never_fall-left (f ∷ []) gs e = refl
never_fall-left (f ∷ g ∷ fs) gs e =
    and_i (not_later f.date g.date) _ (and_l _ _ e) (never_fall-left (g ∷ fs) gs (and_r (not_later f.date g.date) _ e))

-- A machine that obeys the rules had room for its last file,
pub room_of : (m : Machine) (f : Filed) → obeys (filing m f) ≡ true → Room m f
room_of m f e =
    let r = rules_of (filing m f) e in
    let fs = m.files in
    let few-files = r.few-files in
    let few-changes : length (changes_of fs ++ f.changes) ≤ changes_most = rw changes_of-more at r.few-changes in
    let few_bytes : length (changes_bytes (changes_of fs ++ f.changes)) ≤ bytes_most = rw changes_of-more at r.few_bytes in
    record {
      formed = all_head is_filed f [] (all_right is_filed fs (f ∷ []) r.filed);
      files = omega (arith, length-append fs (f ∷ []));
      changes = omega (arith, length-append (changes_of fs) f.changes);
      bytes = omega (arith, ap length (changes_bytes-append (changes_of fs) f.changes), length-append (changes_bytes (changes_of fs)) (changes_bytes f.changes));
    }

-- and obeys them without it.
pub obeys_struck : (m : Machine) (f : Filed) → obeys (filing m f) ≡ true → obeys m ≡ true
obeys_struck m f e =
    let r = rules_of (filing m f) e in
    let room = room_of m f e in
    let fs = m.files in
    obeys_by m record {
      study = r.study;
      version = r.version;
      few-files = omega arith;
      filed = all_left is_filed fs (f ∷ []) r.filed;
      distinct_oids = distinct-left fs (f ∷ []) r.distinct_oids;
      dates = never_fall-left fs (f ∷ []) r.dates;
      few-changes = omega arith;
      few_bytes = omega arith;
      turns = in_turn-front [] (changes_of fs) f.changes (rw changes_of-more at r.turns);
    }

-- A list of files is empty, or the files before the last and the last.
pub last_none : (fs : List Filed) → last_filed fs ≡ none → fs ≡ []
unfolding last_filed
last_none [] e = refl
last_none (f ∷ []) e = cc
last_none (f ∷ g ∷ fs) e = absurd (go g fs e)
  where
    go : (g : Filed) (fs : List Filed) → last_filed (g ∷ fs) ≡ none → ⊥
    go g [] e = let z : ◌≡◌ {A = ℕ} 0 1 = cc in omega arith
    go g (h ∷ fs) e = go h fs e

pub last_some : (fs : List Filed) (f : Filed) → last_filed fs ≡ some f → fs ≡ without_last fs ++ f ∷ []
unfolding last_filed without_last
last_some [] f e = cc
last_some (g ∷ []) f e = cc
last_some (g ∷ h ∷ fs) f e = ap (λ (x : List Filed). g ∷ x) (last_some (h ∷ fs) f e)

-- Withdraw: accepted, refused by another FileOID, refused with none standing.
pub withdraw_last : (m : Machine) (f : Filed) (oid : List ℕ) → same oid f.oid ≡ true
    → withdraw (filing m f) oid ≡ accepted record { count = length f.changes; machine = m }
unfolding withdraw strike present unless ◌>>◌ ◌>>=◌
withdraw_last m f oid e = rw (last_filed_snoc m.files f, e, without_last_snoc m.files f)

pub withdraw-other : (m : Machine) (f : Filed) (oid : List ℕ) → same oid f.oid ≡ false → withdraw (filing m f) oid ≡ refused 15
unfolding withdraw present unless ◌>>◌ ◌>>=◌
withdraw-other m f oid e = rw (last_filed_snoc m.files f, e)

pub withdraw_none : (m : Machine) (oid : List ℕ) → m.files ≡ [] → withdraw m oid ≡ refused 15
unfolding withdraw last_filed present ◌>>=◌
withdraw_none m oid e = rw e

-- What Withdraw leaves: the machine that had one file more.
pub withdraw-is : (m : Machine) (oid : List ℕ) (t : Accepted) → withdraw m oid ≡ accepted t
    → (f : Filed) × (m ≡ filing t.machine f) × (oid ≡ f.oid) × (t.count ≡ length f.changes)
unfolding withdraw strike
withdraw-is m oid t e =
    let a = bind_accepted (present (last_filed m.files) 15) (λ f. unless (same oid f.oid) 15 >> accepted (strike m f)) t e in
    let f : Filed = a.0 in
    let b = then_accepted (same oid f.oid) 15 (accepted (strike m f)) t a.2 in
    let s : strike m f ≡ t = accepted-same b.1 in
    let split : m.files ≡ without_last m.files ++ f ∷ [] = last_some m.files f (present-accepted _ 15 f a.1) in
    let whole : m ≡ filing (strike m f).machine f = ap (with_files m) split in
    (f, whole ∙ ap (λ (x : Accepted). filing x.machine f) s, same_eq oid f.oid b.0, ap (λ (x : Accepted). x.count) (sym s))

pub withdraw-obeys : (m : Machine) (oid : List ℕ) (t : Accepted) → obeys m ≡ true → withdraw m oid ≡ accepted t → obeys t.machine ≡ true
withdraw-obeys m oid t o e = let w = withdraw-is m oid t e in obeys_struck t.machine w.0 (rw (← w.1) o)
