-- The tag of an entity, as the code has read it: the names that it adds to those that are held, and the bytes of its change. Contracts of inner functions
-- cite it.
use Rattle.std.specs.Prelude.{◌≡◌, Bool, true, false, List, [], ◌++◌, ℕ, ◌+◌, ◌-◌, ◌≤◌, ◌<◌, min, eqb, ltb, length, take, get_or, set}
use Rattle.names.specs.Key.{Key, Name, own_names, names_used}
use Rattle.names.specs.code.HeldKey.{held_from, slotted, packed_most}
use Rattle.names.specs.Name.{name_most, value_most}
use Rattle.names.specs.Pick.{pick}
use Rattle.store.specs.Change.{Change, live}
use Rattle.reader.specs.Element.{item}
use Rattle.reader.specs.code.Keeping.{KeyOfDepth}
use Rattle.reader.specs.code.Places.{part}
use Rattle.reader.specs.declared.cursor.TagRead.{TagRead}
use Rattle.reader.specs.declared.entity.Own.{Own}

-- The eight names that are held, and of them those of an entity of a depth.
abbrev pub eight_in : List ℕ → List ℕ → List Name
eight_in names lens = held_from 8 0 names lens

abbrev pub key_held : ℕ → List ℕ → List ℕ → Key
key_held depth names lens = held_from (names_used depth) 0 names lens

-- The first slot of the names that an element of a level adds; 8 says that it adds none.
unfoldable pub own_slot : ℕ → ℕ
own_slot level = pick (eqb level 0) 8 (names_used (level - 1))

-- The depth of the entity that a tag opens or closes.
unfoldable pub tag_depth : ℕ → ℕ → ℕ
tag_depth kind level = pick (eqb kind 2) (level - 1) level

-- Two stretches, each cut to what a slot holds, for an entity of a depth.
abbrev pub own_at : ℕ → ℕ → ℕ → ℕ → ℕ → ℕ → Own
own_at depth slot a b c d = record { slot = slot; oid = a; oid_end = a + min (b - a) name_most; repeat = c; repeat_end = c + min (d - c) name_most; depth = depth }

-- Those of a tag: its key or OID and, at depths 2 to 4, its repeat key.
abbrev pub own_by : ℕ → ℕ → ℕ → ℕ → ℕ → ℕ → ℕ → Own
own_by level depth slot a b c d =
    pick (eqb level 1) (own_at depth slot a b 0 0) (pick (eqb level 5) (own_at depth slot a b 0 0) (pick (eqb c 0) (own_at depth slot a b 0 0) (own_at depth slot a b c d)))

unfoldable pub own_of : TagRead → ℕ → Own
own_of t level =
    pick (eqb t.kind 2) (own_at (tag_depth t.kind level) (own_slot level) 0 0 0 0)
    (own_by level (tag_depth t.kind level) (own_slot level) (get_or t.found.starts 0 0) (get_or t.found.ends 0 0) (get_or t.found.starts 1 0) (get_or t.found.ends 1 0))

-- The stretches of an opening tag's first two attributes.
pub record OwnStretches (t : TagRead) : Type 0 where
  pub first : get_or t.found.starts 0 0 ≤ get_or t.found.ends 0 0
  pub second : get_or t.found.starts 1 0 ≤ get_or t.found.ends 1 0

-- Stretches that fit their slots, and lie in the file.
pub record Slight (o : Own) : Type 0 where
  pub slot : o.slot ≤ 8
  pub oid-order : o.oid ≤ o.oid_end
  pub oid-few : o.oid_end - o.oid ≤ name_most
  pub repeat_order : o.repeat ≤ o.repeat_end
  pub repeat_few : o.repeat_end - o.repeat ≤ name_most

pub record Short (s : List ℕ) (o : Own) : Type 0 where
  pub slight : Slight o
  pub oid-inside : o.oid_end ≤ length s
  pub repeat_inside : o.repeat_end ≤ length s

-- The slots and lengths with these names.
unfoldable pub names_filled : List ℕ → List ℕ → Own → List ℕ
names_filled names s o =
    slotted (slotted names o.slot (part s o.oid o.oid_end)) (o.slot + 1) (part s o.repeat o.repeat_end)

unfoldable pub lengths_filled : List ℕ → Own → List ℕ
lengths_filled lens o = set (set lens o.slot (o.oid_end - o.oid)) (o.slot + 1) (o.repeat_end - o.repeat)

-- Of the names that are held those of the entity that an opening tag names are the ones around it and its own, each as far as a slot holds it.
abbrev pub own_name : List ℕ → TagRead → Name
own_name s t = take name_most (part s (get_or t.found.starts 0 0) (get_or t.found.ends 0 0))

unfoldable pub repeat_name : List ℕ → TagRead → Name
repeat_name s t = pick (eqb (get_or t.found.starts 1 0) 0) [] (take name_most (part s (get_or t.found.starts 1 0) (get_or t.found.ends 1 0)))

abbrev pub Filled : List ℕ → TagRead → ℕ → ℕ → List Name → Type 0
Filled s t kind level k = kind < 2 → 1 ≤ level → level ≤ 5 → take (names_used level) k ≡ take (names_used (level - 1)) k ++ own_names level (own_name s t) (repeat_name s t)

-- Whether an item's Value or IsNull stands in its tag, by its element and by where they start. A typed item gives its body.
unfoldable pub given_at : ℕ → List ℕ → Bool
given_at e starts = pick (ltb item e) true (pick (eqb e item) (pick (eqb (get_or starts 1 0) 0) (pick (eqb (get_or starts 2 0) 0) false true) true) false)

-- Room for a key's bytes, of which the last slot is moved whole, and for a value behind.
abbrev pub text_room : ℕ
text_room = packed_most + name_most + value_most

-- An entity that may be ended.
pub record Endable (past : List Change) (depth : ℕ) (k : Key) : Type 0 where
  pub low : 1 ≤ depth
  pub key : KeyOfDepth depth k
  pub live : live past k ≡ true
