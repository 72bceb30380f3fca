-- The tags of a snapshot can be written and read back.
use mathlib.Core.Path.{◌≡◌, refl}
use mathlib.Core.Bool.{true}
use mathlib.Core.List.{List, [], ◌∷◌}
use Prim.Native.Nat.{ℕ, zero, suc, ◌+◌, ◌-◌, ◌<◌, ◌≤◌, min}
use native.Mathlib.Omega.{arith}
use lib.ListN.{get_or, drop}
use Rattle.names.specs.Bytes.{all, any}
use Rattle.names.specs.Class.{is_letter, is_digit, is_value_byte}
use Rattle.names.specs.Key.{Key, Name, depth_of, names_used, is_repeat, own_names}
use Rattle.names.specs.Name.{name_most, is_name}
use Rattle.names.specs.Order.{alike, same}
use Rattle.names.specs.Pick.{pick, ◌and◌}
use Rattle.names.proofs.Tests.{and_i, at-below}
use Rattle.store.specs.Change.{Value}
use Rattle.store.specs.Table.{Entity}
use Rattle.reader.specs.Tag.{Tag, closes, first_is, is_tag_byte, has, none_twice}
use Rattle.reader.specs.Element.{elements, element_at, attribute_at}
use Rattle.snapshot.specs.Snapshot.{repeat_attr, value_attr, entity_attributes, open_tag, close_tags, entity_tags, odm_tag, clinical_tag}
use Rattle.reader.proofs.PlainNames.{plain_name}
use Rattle.snapshot.proofs.Attributes.{plain_attr}
use Rattle.snapshot.proofs.ByteFacts.{name_printable, value_printable}
use Rattle.snapshot.proofs.Chained.{Chained, no_more, next}
use Rattle.snapshot.proofs.Reread.{plain_tag}

-- The plain names and the element table, computed.
unfoldable plain_table : Unit {0}
unfolding plain_tag plain_attr plain_name first_is is_tag_byte is_letter is_digit is_value_byte all none_twice has any same alike elements element_at attribute_at pick ◌and◌
plain_table = tt

repeat_printable : (r : Name) → is_repeat r ≡ true → all is_value_byte r ≡ true
unfolding is_repeat all is_name
repeat_printable [] e = refl
repeat_printable (c ∷ r) e = name_printable name_most (c ∷ r) e

plain_open : (j : ℕ) (n r : Name) (v : Value) → j ≤ 4 → all is_value_byte n ≡ true → all is_value_byte r ≡ true → all is_value_byte v ≡ true
    → plain_tag (open_tag (suc j) (own_names (suc j) n r) v) ≡ true
unfolding plain_table open_tag entity_attributes repeat_attr value_attr own_names
plain_open zero n r v b a c d = rw a
plain_open (suc zero) n [] v b a c d = rw a
plain_open (suc zero) n (x ∷ r) v b a c d = rw (a, c)
plain_open (suc (suc zero)) n [] v b a c d = rw a
plain_open (suc (suc zero)) n (x ∷ r) v b a c d = rw (a, c)
plain_open (suc (suc (suc zero))) n [] v b a c d = rw a
plain_open (suc (suc (suc zero))) n (x ∷ r) v b a c d = rw (a, c)
plain_open (suc (suc (suc (suc zero)))) n r [] b a c d = rw a
plain_open (suc (suc (suc (suc zero)))) n r (x ∷ v) b a c d = rw (a, d)
plain_open (suc (suc (suc (suc (suc j))))) n r v b a c d = absurd (omega arith)

pub plain-element : (l : ℕ) → l < 7 → plain_tag (closes (element_at l).name) ≡ true
unfolding plain_table
plain-element l b = at-below 7 (λ l. plain_name (element_at l).name) refl l b

plain_close : (n d : ℕ) (ts : List Tag) → n + d ≤ 4 → all plain_tag ts ≡ true → all plain_tag (close_tags n d ts) ≡ true
unfolding close_tags all
plain_close zero d ts b e = e
plain_close (suc n) d ts b e = and_i _ _ (plain-element (suc (suc (n + d))) (omega arith)) (plain_close n d ts (omega arith) e)

pub plain-entities : (es : List Entity) (o : ℕ) (last : Key) → o ≤ 4 → Chained o last es → all plain_tag (entity_tags o es) ≡ true
unfolding entity_tags all is_name
plain-entities [] o last b no_more = plain_close o 0 [] (omega arith) refl
plain-entities (e ∷ es) o last b (next f c) =
    let k = e.key in
    let j = depth_of k - 1 in
    let t = f.key in
    let own = drop (names_used j) k in
    let p : plain_tag (open_tag (suc j) own e.value) ≡ true =
    rw t.own
    (plain_open j (get_or own 0 []) (get_or own 1 []) e.value t.below (name_printable name_most (get_or own 0 []) t.oid) (repeat_printable (get_or own 1 []) t.rep)
    (value_printable e.value f.value)) in
    plain_close (o - j) j _ (omega (arith, t.below)) (and_i _ _ p (plain-entities es (min (suc j) 4) k (omega arith) c))

pub plain_odm : (oid date : List ℕ) → all is_value_byte oid ≡ true → all is_value_byte date ≡ true → plain_tag (odm_tag oid date) ≡ true
unfolding plain_table odm_tag
plain_odm oid date a b = rw (a, b)

pub plain-clinical : (study version : List ℕ) → all is_value_byte study ≡ true → all is_value_byte version ≡ true → plain_tag (clinical_tag study version) ≡ true
unfolding plain_table clinical_tag
plain-clinical study version a b = rw (a, b)
