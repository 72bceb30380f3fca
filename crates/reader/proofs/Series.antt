-- The file of an accepted ODM tag goes on the series of the standing files.
use mathlib.Core.Path.{◌≡◌, refl, subst, ◌∙◌}
use mathlib.Core.List.{List, [], ◌∷◌, ◌++◌}
use mathlib.Core.Bool.{true, false, not, false≢true}
use mathlib.Core.Option.{Option, none, some}
use Prim.Native.Nat.{ℕ, ◌<◌}
use native.Mathlib.Omega.{arith}
use lib.ListN.{length}
use borrow.Author.Tests.{ltb-true, not-true}
use Rattle.names.specs.Bytes.{bytes, any}
use Rattle.names.specs.Date.{is_date, not_later}
use Rattle.names.specs.Name.{is_long_name}
use Rattle.names.specs.Order.{same}
use Rattle.names.proofs.Tests.{and_l, and_r, and_i, or_l, or_r}
use Rattle.names.proofs.Ordered.{same_sym}
use Rattle.store.specs.Answer.{accepted}
use Rattle.store.specs.code.Standing.{not_before}
use Rattle.store.specs.Machine.{Filed, Machine, standing, distinct, never_fall, last_filed, files_most}
use Rattle.store.proofs.Calls.Answers.{accepted-same, both-accepted, unless-accepted}
use Rattle.reader.specs.Tag.{Attr}
use Rattle.reader.specs.Element.{elements, element_at, attribute_at, long_name, date, get, or_else, formed_by, has_form}
use Rattle.reader.specs.Judge.{Header, header_of, follows, in_series, open_odm}
use Rattle.reader.proofs.Forms.{placed, stands, stands_at, formed-at, required-at}
use Rattle.reader.specs.code.Placed.{Placed}

-- One more file, of an OID that is not standing and a date not before the last kept one.
module _ (f : Filed) where
  not_standing : (oid : List ℕ) (fs : List Filed) → standing oid fs ≡ false → same oid f.oid ≡ false → standing oid (fs ++ f ∷ []) ≡ false
  unfolding standing any
  not_standing oid [] e g = rw g
  not_standing oid (h ∷ fs) e g = rw (or_l (same oid h.oid) (standing oid fs) e) (not_standing oid fs (or_r (same oid h.oid) (standing oid fs) e) g)

  pub distinct_snoc : (fs : List Filed) → distinct fs ≡ true → standing f.oid fs ≡ false → distinct (fs ++ f ∷ []) ≡ true
  unfolding distinct standing any
  distinct_snoc [] e g = and_i _ _ refl refl
  distinct_snoc (h ∷ fs) e g =
      let other : same f.oid h.oid ≡ false = or_l (same f.oid h.oid) (standing f.oid fs) g in
      let n : standing h.oid (fs ++ f ∷ []) ≡ false = not_standing h.oid fs (not-true _ (and_l _ _ e)) (same_sym h.oid f.oid ∙ other) in
      and_i _ _ (rw n) (distinct_snoc fs (and_r (not (standing h.oid fs)) _ e) (or_r (same f.oid h.oid) (standing f.oid fs) g))

  pub never_fall_snoc : (fs : List Filed) → never_fall fs ≡ true → not_before (last_filed fs) f.date ≡ true → never_fall (fs ++ f ∷ []) ≡ true
  unfolding never_fall last_filed not_before
  never_fall_snoc [] e g = refl
  never_fall_snoc (h ∷ []) e g = and_i _ _ g refl
  never_fall_snoc (h ∷ i ∷ fs) e g = and_i _ _ (and_l _ _ e) (never_fall_snoc (i ∷ fs) (and_r (not_later h.date i.date) _ e) g)

-- What an accepted ODM tag says of the file, whatever its changes will be.
pub record Follows (fs : List Filed) (h : Header) : Type 0 where
  pub oid : is_long_name h.oid ≡ true
  pub date : is_date h.date ≡ true
  pub new : standing h.oid fs ≡ false
  pub later : not_before (last_filed fs) h.date ≡ true
  pub room : length fs < files_most

follows-later : (o : Option Filed) (prior : Option (List ℕ)) (h : Header) → follows o prior h ≡ true → not_before o h.date ≡ true
unfolding follows not_before
follows-later none prior h e = refl
follows-later (some f) none h e = absurd (false≢true e)
follows-later (some f) (some prior) h e = and_l _ _ (and_r _ _ e)

kept-date : (a c : Option (List ℕ)) → formed_by date a ≡ true → is_date (or_else [] c) ≡ true → is_date (or_else (or_else [] c) a) ≡ true
unfolding formed_by has_form or_else
kept-date none c e g = g
kept-date (some d) c e g = e

pub odm_follows : (m : Machine) (n : List ℕ) (as' : List Attr) (h : Header) → open_odm m n as' ≡ accepted h → Follows m.files h
unfolding open_odm in_series header_of element_at elements attribute_at has_form
odm_follows m n as' h e =
    let a = both-accepted _ _ h e in
    let b = both-accepted _ _ a.0 a.1 in
    let c = both-accepted _ _ b.0 b.1 in
    let p = subst (λ (e : ℕ). Placed e as') (stands_at 0 c.0 (stands none 0 n as' c.0 c.1) (omega arith)) (placed none 0 n as' c.0 c.1) in
    let s = unless-accepted _ 9 b.0 c.2 in
    let f = unless-accepted _ 13 a.0 b.2 in
    rw (← accepted-same a.2) record {
      oid = required-at 0 as' p 2 long_name (omega arith) refl refl;
      date = kept-date (get (bytes "AsOfDateTime") as') (get (bytes "CreationDateTime") as') (formed-at 0 as' p 6 date (omega arith) refl)
          (required-at 0 as' p 3 date (omega arith) refl refl);
      new = not-true _ (and_l _ _ s);
      later = follows-later _ _ _ (and_l _ _ (and_r _ _ s));
      room = ltb-true _ _ f;
    }
