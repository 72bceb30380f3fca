-- What a machine that obeys the rules obeys, rule by rule.
use mathlib.Core.Path.{◌≡◌}
use mathlib.Core.Bool.{true}
use mathlib.Core.List.{List, []}
use Prim.Native.Nat.{ℕ, ◌≤◌}
use lib.Dec.{leb}
use lib.ListN.{length}
use borrow.Author.Tests.{leb-true, le-leb}
use Rattle.names.specs.Bytes.{all}
use Rattle.names.specs.Date.{date_size, is_date}
use Rattle.names.specs.Name.{long_name_most, is_long_name, is_name_of}
use Rattle.names.specs.Pick.{◌and◌}
use Rattle.names.proofs.Tests.{and_l, and_r}
use Rattle.store.specs.Change.{changes_bytes}
use Rattle.store.specs.Machine.{Filed, Machine, is_filed, distinct, never_fall, in_turn, changes_of, obeys, files_most, changes_most, bytes_most}
use Rattle.names.proofs.DateLaws.{date-most}

pub record Rules (m : Machine) : Type 0 where
  pub study : is_long_name m.study ≡ true
  pub version : is_long_name m.version ≡ true
  pub few-files : length m.files ≤ files_most
  pub filed : all is_filed m.files ≡ true
  pub distinct_oids : distinct m.files ≡ true
  pub dates : never_fall m.files ≡ true
  pub few-changes : length (changes_of m.files) ≤ changes_most
  pub few_bytes : length (changes_bytes (changes_of m.files)) ≤ bytes_most
  pub turns : in_turn [] (changes_of m.files) ≡ true

pub rules_of : (m : Machine) → obeys m ≡ true → Rules m
unfolding obeys
rules_of m e =
    let e1 = and_r (is_long_name m.study) _ e in
    let e2 = and_r (is_long_name m.version) _ e1 in
    let e3 = and_r (leb (length m.files) files_most) _ e2 in
    let e4 = and_r (all is_filed m.files) _ e3 in
    let e5 = and_r (distinct m.files) _ e4 in
    let e6 = and_r (never_fall m.files) _ e5 in
    let e7 = and_r (leb (length (changes_of m.files)) changes_most) _ e6 in
    record {
      study = and_l _ _ e;
      version = and_l _ _ e1;
      few-files = leb-true _ _ (and_l _ _ e2);
      filed = and_l _ _ e3;
      distinct_oids = and_l _ _ e4;
      dates = and_l _ _ e5;
      few-changes = leb-true _ _ (and_l _ _ e6);
      few_bytes = leb-true _ _ (and_l _ _ e7);
      turns = and_r (leb (length (changes_bytes (changes_of m.files))) bytes_most) _ e7;
    }

pub obeys_by : (m : Machine) → Rules m → obeys m ≡ true
unfolding obeys ◌and◌
obeys_by m r =
    rw (
      r.study,
      r.version,
      le-leb _ _ r.few-files,
      r.filed,
      r.distinct_oids,
      r.dates,
      le-leb _ _ r.few-changes,
      le-leb _ _ r.few_bytes,
    )
    r.turns

-- The lengths that the layout rests on.
pub long-name-length : (s : List ℕ) → is_long_name s ≡ true → length s ≤ long_name_most
unfolding is_long_name is_name_of
long-name-length s e = leb-true _ _ (and_l _ _ (and_r (leb 1 (length s)) _ e))

module _ (f : Filed) (e : is_filed f ≡ true) where
  pub filed_oid : length f.oid ≤ long_name_most
  unfolding is_filed
  filed_oid = long-name-length f.oid (and_l _ _ e)

  pub filed_dated : is_date f.date ≡ true
  unfolding is_filed
  filed_dated = and_r (is_long_name f.oid) _ e

  pub filed_date : length f.date ≤ date_size
  filed_date = date-most f.date filed_dated
