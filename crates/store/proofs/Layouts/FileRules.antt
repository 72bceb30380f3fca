-- FileOIDs and dates, file by file: the rules of a list with one more file, and of the files whose rows and slots fit.
use mathlib.Core.Path.{◌≡◌, refl, sym, ◌∙◌}
use mathlib.Core.Bool.{Bool, true, false, not, ◌||◌}
use mathlib.Core.List.{List, [], ◌∷◌, ◌++◌}
use Prim.Native.Nat.{ℕ, zero, suc, ◌-◌}
use native.Mathlib.Omega.{arith}
use borrow.Author.Tests.{ne_eqb}
use Rattle.names.specs.Bytes.{any}
use Rattle.names.specs.Date.{not_later}
use Rattle.names.specs.Order.{same}
use Rattle.names.specs.Pick.{◌and◌}
use Rattle.names.proofs.Ordered.{same_sym}
use Rattle.names.proofs.Tests.{and_l, and_i, or_false, and_true, and_assoc}
use Rattle.store.specs.Change.{Change}
use Rattle.store.specs.code.Layout.{oid_at, date_at, new_oid, files_fit}
use Rattle.store.specs.Machine.{Filed, standing, distinct, never_fall}
use Rattle.store.proofs.Layouts.FileFits.{file-fits-at}
use Rattle.store.proofs.Layouts.FilesLaid.{file_at, first_files}
use Rattle.store.proofs.Lists.LastOf.{standing-append}

-- One more file.
pub standing-more : (oid : List ℕ) (fs : List Filed) (f : Filed) → standing oid (fs ++ f ∷ []) ≡ (standing oid fs || same oid f.oid)
unfolding standing any
standing-more oid fs f = standing-append oid fs (f ∷ []) ∙ rw (or_false (same oid f.oid))

pub distinct_more : (fs : List Filed) (f : Filed) → distinct (fs ++ f ∷ []) ≡ (distinct fs and not (standing f.oid fs))
unfolding distinct standing any ◌and◌
distinct_more [] f = refl
distinct_more (g ∷ fs) f =
    rw (standing-more g.oid fs f, distinct_more fs f, same_sym g.oid f.oid) (go (standing g.oid fs) (same f.oid g.oid) (distinct fs) (standing f.oid fs))
  where
    go : (a s d b : Bool) → (not (a || s) and (d and not b)) ≡ ((not a and d) and not (s || b))
    go true s d b = refl
    go false true true b = refl
    go false true false b = refl
    go false false d b = refl

pub never_fall-more : (fs : List Filed) (f g : Filed) → never_fall (fs ++ f ∷ [] ++ g ∷ []) ≡ (never_fall (fs ++ f ∷ []) and not_later f.date g.date)
unfolding never_fall ◌and◌
never_fall-more [] f g = and_true (not_later f.date g.date)
never_fall-more (h ∷ []) f g = rw (and_true (not_later f.date g.date), and_true (not_later h.date f.date))
never_fall-more (h ∷ k ∷ fs) f g =
    rw (never_fall-more (k ∷ fs) f g) (sym (and_assoc (not_later h.date k.date) (never_fall (k ∷ fs ++ f ∷ [])) (not_later f.date g.date)))

-- The files whose rows and slots fit.
module _ (ns bs : List ℕ) (cs : List Change) where
  pub new_oid-standing : (i n : ℕ) → new_oid ns bs i n ≡ not (standing (oid_at ns bs i) (first_files ns bs cs n))
  unfolding new_oid first_files file_at standing any ◌and◌
  new_oid-standing i zero = refl
  new_oid-standing i (suc n) =
      rw (standing-more (oid_at ns bs i) (first_files ns bs cs n) (file_at ns bs cs n), new_oid-standing i n)
      (go (same (oid_at ns bs i) (oid_at ns bs n)) (standing (oid_at ns bs i) (first_files ns bs cs n)))
    where
      go : (s a : Bool) → (not s and not a) ≡ not (a || s)
      go true true = refl
      go true false = refl
      go false true = refl
      go false false = refl

  pub files-distinct : (n : ℕ) → files_fit ns bs n ≡ true → distinct (first_files ns bs cs n) ≡ true
  unfolding first_files distinct files_fit
  files-distinct zero e = refl
  files-distinct (suc n) e =
      let f = file-fits-at ns bs (suc n) n e (omega arith) in
      rw (distinct_more (first_files ns bs cs n) (file_at ns bs cs n))
      (and_i (distinct (first_files ns bs cs n)) _ (files-distinct n (and_l _ _ e)) (unfold file_at in rw new_oid-standing at f.new))

  pub files_dates : (n : ℕ) → files_fit ns bs n ≡ true → never_fall (first_files ns bs cs n) ≡ true
  unfolding first_files file_at never_fall files_fit
  files_dates zero e = refl
  files_dates (suc zero) e = refl
  files_dates (suc (suc n)) e =
      let f = file-fits-at ns bs (suc (suc n)) (suc n) e (omega arith) in
      let d : suc n - 1 ≡ n = omega arith in
      let o : (false || not_later (date_at bs n) (date_at bs (suc n))) ≡ true = rw (ne_eqb (suc n) 0 (λ q. omega arith), d) at f.order in
      rw (never_fall-more (first_files ns bs cs n) (file_at ns bs cs n) (file_at ns bs cs (suc n)))
      (and_i (never_fall (first_files ns bs cs (suc n))) _ (files_dates (suc n) (and_l _ _ e)) o)
