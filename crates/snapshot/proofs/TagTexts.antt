-- The texts of the pieces: each tag printed in front of nothing, and tags one after another.
use mathlib.Core.Path.{◌≡◌, refl}
use mathlib.Core.Bool.{Bool, true, false}
use mathlib.Core.List.{List, [], ◌∷◌, ◌++◌, append_assoc}
use Prim.Native.Nat.{ℕ, zero, suc, ◌+◌, ◌-◌, ◌≤◌, ◌<◌, min}
use native.Mathlib.Omega.{arith}
use lib.ListN.{length, drop, get_or}
use borrow.Author.Tests.{ne_eqb}
use Rattle.names.specs.Key.{Key, Name, depth_of, names_used}
use Rattle.names.specs.Pick.{pick}
use Rattle.names.specs.Text.{escape}
use Rattle.store.specs.Change.{Value}
use Rattle.store.specs.Table.{Entity}
use Rattle.reader.specs.Tag.{Attr, Tag, opens, closes}
use Rattle.reader.specs.Element.{element_at}
use Rattle.snapshot.specs.Print.{put_attr, put_attrs, put_end, put_tag, put_tags}
use Rattle.snapshot.specs.Snapshot.{repeat_attr, entity_attributes, open_tag, close_tags, entity_tags}
use Rattle.snapshot.specs.code.Writing.{head_text, repeat_head, repeat_text, value_text, rest_text, close_text, closing_text, entities_text}

-- What follows a printed text may be appended to it.
put-end : (self : Bool) (k m : List ℕ) → put_end self (k ++ m) ≡ put_end self k ++ m
unfolding put_end
put-end true k m = refl
put-end false k m = refl

put-attr : (a : Attr) (k m : List ℕ) → put_attr a (k ++ m) ≡ put_attr a k ++ m
unfolding put_attr
put-attr a k m = simp append_assoc

put-attrs : (as' : List Attr) (k m : List ℕ) → put_attrs as' (k ++ m) ≡ put_attrs as' k ++ m
unfolding put_attrs
put-attrs [] k m = refl
put-attrs (a ∷ as') k m = rw (put-attrs as' k m) (put-attr a (put_attrs as' k) m)

pub put_tag_lem : (t : Tag) (k m : List ℕ) → put_tag t (k ++ m) ≡ put_tag t k ++ m
unfolding put_tag
put_tag_lem (opens n as' self) k m = rw (put-end self k m, put-attrs as' (put_end self k) m, append_assoc)
put_tag_lem (closes n) k m = rw (put-end false k m, append_assoc)

pub put-tags : (ts : List Tag) (k m : List ℕ) → put_tags ts (k ++ m) ≡ put_tags ts k ++ m
unfolding put_tags
put-tags [] k m = refl
put-tags (t ∷ ts) k m = rw (put-tags ts k m) (put_tag_lem t (put_tags ts k) m)

-- Closing tags in front of others.
closed-front : (n d : ℕ) (ts : List Tag) → put_tags (close_tags n d ts) [] ≡ put_tags (close_tags n d []) [] ++ put_tags ts []
unfolding close_tags put_tags
closed-front zero d ts = refl
closed-front (suc n) d ts =
    rw (closed-front n d ts) (put_tag_lem (closes (element_at (suc (suc (n + d)))).name) (put_tags (close_tags n d []) []) (put_tags ts []))

pub closing-more : (k j : ℕ) → j < k → closing_text k j ≡ close_text k ++ closing_text (k - 1) j
unfolding closing_text close_text close_tags put_tags
closing-more k j h =
    let m : ℕ = k - 1 - j in
    let e : k - j ≡ suc m = omega arith in
    let f : suc (m + j) ≡ k = omega arith in
    rw (e, f) (put_tag_lem (closes (element_at (suc k)).name) [] (put_tags (close_tags m j []) []))

pub closing_none : (k j : ℕ) → k ≤ j → closing_text k j ≡ []
unfolding closing_text close_tags put_tags
closing_none k j h = let e : k - j ≡ 0 = omega arith in rw e

-- An entity: closing tags, its opening tag, and the others.
pub entities-more : (o : ℕ) (e : Entity) (es : List Entity) (d : ℕ) → depth_of e.key ≡ d → 1 ≤ d
    → entities_text o (e ∷ es) ≡ closing_text o (d - 1) ++ put_tag (open_tag d (drop (names_used (d - 1)) e.key) e.value) [] ++ entities_text (min d 4) es
unfolding entities_text entity_tags closing_text put_tags
entities-more o e es d q h =
    let s : suc (d - 1) ≡ d = omega arith in
    let first : Tag = open_tag d (drop (names_used (d - 1)) e.key) e.value in
    let others : List Tag = entity_tags (min d 4) es in
    rw (q, s, closed-front (o - (d - 1)) (d - 1) (first ∷ others), put_tag_lem first [] (put_tags others []), append_assoc)

pub entities_none : (o : ℕ) → entities_text o [] ≡ closing_text o 0
unfolding entities_text entity_tags closing_text
entities_none o = let z : o - 0 ≡ o = omega arith in rw z

-- An opening tag: up to its first value, the value, and what follows it.
pub open_text : (d : ℕ) (own : Key) (v : Value) → put_tag (open_tag d own v) [] ≡ head_text d ++ escape (get_or own 0 []) ++ rest_text d own v
unfolding put_tag open_tag entity_attributes put_attrs put_attr head_text rest_text
open_text d own v = simp append_assoc

-- What follows the first value, by depth.
pub rest-subject : (d : ℕ) (own : Key) (v : Value) → d ≡ 1 → rest_text d own v ≡ 34 ∷ 62 ∷ 10 ∷ []
unfolding rest_text put_attrs put_end pick
rest-subject d own v e = rw e

pub rest-item : (d : ℕ) (own : Key) (v : Value) → d ≡ 5 → rest_text d own v ≡ value_text v
unfolding rest_text value_text pick
rest-item d own v e = rw e

pub rest-other : (d : ℕ) (own : Key) (v : Value) → (d ≡ 1 → ⊥) → (d ≡ 5 → ⊥) → rest_text d own v ≡ repeat_text d (get_or own 1 [])
unfolding rest_text repeat_text pick
rest-other d own v f g = rw (ne_eqb d 1 f, ne_eqb d 5 g)

pub repeat_some : (d : ℕ) (n : Name) → 0 < length n → repeat_text d n ≡ repeat_head d ++ escape n ++ (34 ∷ 62 ∷ 10 ∷ [])
unfolding repeat_text repeat_head repeat_attr put_attrs put_attr put_end
repeat_some d [] h = absurd (omega arith)
repeat_some d (c ∷ n) h = simp append_assoc

pub repeat_none : (d : ℕ) (n : Name) → length n ≡ 0 → repeat_text d n ≡ 34 ∷ 62 ∷ 10 ∷ []
unfolding repeat_text repeat_attr put_attrs put_end
repeat_none d [] h = refl
repeat_none d (c ∷ n) h = absurd (omega arith)
