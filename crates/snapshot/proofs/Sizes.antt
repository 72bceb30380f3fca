-- How long a snapshot is.
use mathlib.Core.Path.{◌≡◌, refl, ap}
use mathlib.Core.Bool.{true}
use mathlib.Core.List.{List, [], ◌∷◌, ◌++◌}
use Prim.Native.Nat.{ℕ, zero, suc, ◌+◌, ◌-◌, ◌*◌, ◌≤◌, min}
use native.Mathlib.Nat.{zero-add, suc-add}
use native.Mathlib.Omega.{arith}
use lib.ListN.{length, get_or, drop, length-append}
use Rattle.names.specs.Bytes.{bytes}
use Rattle.names.specs.Key.{Key, Name, depth_of, names_used, is_repeat, own_names}
use Rattle.names.specs.Date.{date_size, is_date}
use Rattle.names.specs.Name.{name_most, long_name_most, is_name, is_long_name, is_value}
use Rattle.names.specs.Pick.{pick}
use Rattle.names.specs.Text.{escape}
use Rattle.names.proofs.Tests.{and_l, and_r}
use Rattle.store.specs.Change.{Value}
use Rattle.store.specs.Machine.{Machine, changes_of, obeys}
use Rattle.store.specs.Table.{Entity, table}
use Rattle.reader.specs.Tag.{Attr, Tag, closes}
use Rattle.reader.specs.Element.{elements, element_at, attribute_at}
use Rattle.reader.specs.Import.{declaration}
use Rattle.snapshot.specs.Print.{put_attr, put_attrs, put_end, put_tag, put_tags}
use Rattle.snapshot.specs.Snapshot.{repeat_attr, value_attr, entity_attributes, open_tag, close_tags, entity_tags, odm_tag, clinical_tag, snapshot_tags, snapshot_text}
use Rattle.names.proofs.DateLaws.{date-most}
use Rattle.snapshot.proofs.ByteFacts.{name-size, value-length}
use Rattle.snapshot.proofs.Chained.{Chained, no_more, next, all_chained}
use Rattle.snapshot.proofs.Facts.{TableFacts}
use Rattle.names.proofs.Escape.{escape-short}

-- The bytes of the closing tags of the depths from d down to 1.
unfoldable close_size : ℕ → ℕ
close_size zero = 0
close_size (suc d) = 4 + length (element_at (suc (suc d))).name + close_size d

closed-size : (n d : ℕ) (ts : List Tag) (k : List ℕ) → length (put_tags (close_tags n d ts) k) + close_size d ≡ close_size (n + d) + length (put_tags ts k)
unfolding close_tags close_size put_tags put_tag put_end
closed-size zero d ts k = rw zero-add (omega arith)
closed-size (suc n) d ts k = rw (suc-add n d, length-append) (omega (arith, closed-size n d ts k))

attr-size : (a : Attr) (k : List ℕ) → length (put_attr a k) ≡ 4 + length a.name + length (escape a.value) + length k
unfolding put_attr
attr-size a k = simp length-append (omega arith)

-- The element table and the parts of a tag, computed.
unfoldable parts_of : Unit {0}
unfolding put_tag put_attrs put_end pick elements element_at attribute_at
parts_of = tt

-- "512 × 288": an entity's opening tag and its closing tag. An item takes all of it.
opened-size : (j : ℕ) (n r : Name) (v : Value) (k : List ℕ) → j ≤ 4 → length (escape n) ≤ 16 → length (escape r) ≤ 16 → length (escape v) ≤ 240
    → length (put_tag (open_tag (suc j) (own_names (suc j) n r) v) k) + close_size (min (suc j) 4) ≤ 288 + close_size j + length k
unfolding parts_of open_tag entity_attributes repeat_attr value_attr own_names close_size
opened-size zero n r v k b x y z = simp attr-size (omega arith)
opened-size (suc zero) n [] v k b x y z = simp attr-size (omega arith)
opened-size (suc zero) n (c ∷ r) v k b x y z = simp attr-size (omega arith)
opened-size (suc (suc zero)) n [] v k b x y z = simp attr-size (omega arith)
opened-size (suc (suc zero)) n (c ∷ r) v k b x y z = simp attr-size (omega arith)
opened-size (suc (suc (suc zero))) n [] v k b x y z = simp attr-size (omega arith)
opened-size (suc (suc (suc zero))) n (c ∷ r) v k b x y z = simp attr-size (omega arith)
opened-size (suc (suc (suc (suc zero)))) n r [] k b x y z = simp attr-size (omega (arith, escape-short (bytes "Yes")))
opened-size (suc (suc (suc (suc zero)))) n r (c ∷ v) k b x y z = simp attr-size (omega arith)
opened-size (suc (suc (suc (suc (suc j))))) n r v k b x y z = absurd (omega arith)

repeat_size : (r : Name) → is_repeat r ≡ true → length (escape r) ≤ 16
unfolding is_repeat is_name escape
repeat_size [] e = omega arith
repeat_size (c ∷ r) e = name-size name_most (c ∷ r) e

value-size : (v : Value) → is_value v ≡ true → length (escape v) ≤ 240
value-size v e = omega (arith, escape-short v, value-length v e)

entities-size : (es : List Entity) (o : ℕ) (last : Key) (k : List ℕ) → Chained o last es → length (put_tags (entity_tags o es) k) ≤ 288 * length es + close_size o + length k
unfolding entity_tags put_tags is_name
entities-size [] o last k no_more = let z : o + 0 ≡ o = omega arith in omega (arith, rw z at (closed-size o 0 [] k))
entities-size (e ∷ es) o last k (next f c) =
    let j = depth_of e.key - 1 in
    let t = f.key in
    let own = drop (names_used j) e.key in
    let ts = entity_tags (min (suc j) 4) es in
    let z : o - j + j ≡ o = omega (arith, f.deep) in
    let first : length (put_tag (open_tag (suc j) own e.value) (put_tags ts k)) + close_size (min (suc j) 4) ≤ 288 + close_size j + length (put_tags ts k) =
    rw t.own
    (opened-size j (get_or own 0 []) (get_or own 1 []) e.value (put_tags ts k) t.below (name-size name_most (get_or own 0 []) t.oid) (repeat_size (get_or own 1 []) t.rep) (value-size e.value f.value)) in
    omega (arith, rw z at (closed-size (o - j) j (open_tag (suc j) own e.value ∷ ts) k), first, entities-size es (min (suc j) 4) e.key k c)

-- The study and the version of a machine that obeys the rules.
pub long-names : (m : Machine) → obeys m ≡ true → (is_long_name m.study ≡ true) × (is_long_name m.version ≡ true)
unfolding obeys
long-names m e = (and_l _ _ e, and_l _ _ (and_r (is_long_name m.study) _ e))

-- "+ 1,024": the declaration, ODM and ClinicalData.
odm_size : (oid date k : List ℕ) → length (escape oid) ≤ long_name_most → length date ≤ date_size → length (put_tag (odm_tag oid date) k) ≤ 520 + length k
unfolding parts_of odm_tag
odm_size oid date k a b =
    simp attr-size
    (omega (arith, escape-short date, escape-short (bytes "http://www.cdisc.org/ns/odm/v1.3"), escape-short (bytes "Snapshot"), escape-short (bytes "1.3.2")))

clinical-size : (study version k : List ℕ) → length (escape study) ≤ long_name_most → length (escape version) ≤ long_name_most → length (put_tag (clinical_tag study version) k) ≤ 177 + length k
unfolding parts_of clinical_tag
clinical-size study version k a b = simp attr-size (omega arith)

pub put-append : (ts us : List Tag) (k : List ℕ) → put_tags (ts ++ us) k ≡ put_tags ts (put_tags us k)
unfolding put_tags
put-append [] us k = refl
put-append (t ∷ ts) us k = rw (put-append ts us k)

-- The closing tags of ClinicalData and ODM.
end-size : length (put_tags (closes (element_at 1).name ∷ closes (element_at 0).name ∷ []) []) ≡ 23
unfolding parts_of put_tags
end-size = refl

long-size : (n : List ℕ) → is_long_name n ≡ true → length (escape n) ≤ long_name_most
unfolding is_long_name
long-size n e = name-size long_name_most n e

declared_size : (s : List ℕ) → length (declaration ++ (10 ∷ s)) ≡ 39 + length s
unfolding declaration
declared_size s = omega arith

-- "No snapshot is longer than 148,480 bytes (512 × 288 + 1,024)".
pub snapshot_bound : (m : Machine) (oid date : List ℕ) → TableFacts (table (changes_of m.files)) → obeys m ≡ true → is_long_name oid ≡ true → is_date date ≡ true
    → length (snapshot_text m oid date) ≤ 148480
unfolding snapshot_text snapshot_tags put_tags close_size
snapshot_bound m oid date facts ok a d =
    let es = table (changes_of m.files) in
    let us : List Tag = closes (element_at 1).name ∷ closes (element_at 0).name ∷ [] in
    let ts : List Tag = entity_tags 0 es ++ us in
    let study = (long-names m ok).0 in
    let version = (long-names m ok).1 in
    rw declared_size
    (omega (
      arith,
      odm_size oid date (put_tag (clinical_tag m.study m.version) (put_tags ts [])) (long-size oid a) (date-most date d),
      clinical-size m.study m.version (put_tags ts []) (long-size m.study study) (long-size m.version version),
      ap length (put-append (entity_tags 0 es) us []),
      entities-size es 0 [] (put_tags us []) (all_chained es facts),
      end-size,
      facts.few,
    ))
