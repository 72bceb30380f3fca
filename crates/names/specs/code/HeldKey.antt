-- A key as the code holds it: eight slots of 16 bytes with their lengths, and its names read from bytes.
use Rattle.std.specs.Prelude.{◌≡◌, Option as Maybe, Some, None, List, [], ◌∷◌, ℕ, zero, suc, ◌+◌, ◌-◌, ◌*◌, ◌≤◌, ◌<◌, leb, ltb, length, take, drop, get_or, replicate}
use Rattle.std.proofs.Math.Option.{Option, none, some}
use Rattle.names.specs.Name.{name_most}
use Rattle.names.specs.Overwrite.{overwrite}
use Rattle.names.specs.Pick.{pick, ◌and◌}
use Rattle.names.specs.declared.key.Key.{Key as Held}
use Rattle.names.specs.Key.{Name, Key, names_used, packed}

-- "A key is a depth and eight names with their lengths": name i of a held key, 16 bytes for each.
unfoldable pub held_name : List ℕ → List ℕ → ℕ → Name
held_name names lens i = take (get_or lens i 0) (take name_most (drop (name_most * i) names))

unfoldable pub held_from : ℕ → ℕ → List ℕ → List ℕ → List Name
held_from zero i names lens = []
held_from (suc n) i names lens = held_name names lens i ∷ held_from n (i + 1) names lens

unfoldable pub eight : Held → List Name
eight h = held_from 8 0 h.names h.lens

-- The key that is held: of the eight names those that its depth uses.
unfoldable pub key_of : Held → Key
key_of h = take (names_used h.depth) (eight h)

-- Slot i of the names: 16 bytes, of which a name's length says how many count.
unfoldable pub name_slot : List ℕ → ℕ → List ℕ
name_slot names i = take name_most (drop (name_most * i) names)

-- A name put into slot i; there are eight.
unfoldable pub slotted : List ℕ → ℕ → Name → List ℕ
slotted names i n = pick (ltb i 8) (overwrite names (name_most * i) n) names

-- The most bytes that they take: eight names of a length byte and 16 bytes.
abbrev pub packed_most : ℕ
packed_most = 136

-- They were written to the front of a text, r bytes of it.
pub record Packs (k : Key) (old new : List ℕ) (r : ℕ) : Type 0 where
  pub front : take r new ≡ packed k
  pub size : r ≡ length (packed k)
  pub room : length new ≡ length old

-- A key that was read, and what follows it.
pub record KeyRead : Type 0 where
  pub key : Key
  pub rest : List ℕ

unfoldable pub name_before : Name → Option KeyRead → Option KeyRead
name_before n none = none
name_before n (some r) = some record { key = n ∷ r.key; rest = r.rest }

-- n packed names, each whole and of at most 16 bytes; or none.
unfoldable pub read_key : ℕ → List ℕ → Option KeyRead
read_key zero s = some record { key = []; rest = s }
read_key (suc n) [] = none
read_key (suc n) (l ∷ s) = pick (leb l name_most and leb l (length s)) (name_before (take l s) (read_key n (drop l s))) none

-- The next of them, as the code reads it: b is the place behind.
pub record NameThere (s : List ℕ) (e b : ℕ) : Type 0 where
  pub inside : e < length s
  pub few : get_or s e 0 ≤ name_most
  pub whole : get_or s e 0 ≤ length s - (e + 1)
  pub is : b ≡ e + 1 + get_or s e 0

-- Or there is none.
abbrev pub WholeName : List ℕ → ℕ → Maybe ℕ → Type 0
WholeName s e None = (n : ℕ) → read_key (suc n) (drop e s) ≡ none
WholeName s e (Some b) = NameThere s e b

-- A key of a depth, read from a place on, and the place behind it; "those beyond its depth .. having length 0".
pub record KeyFound (s : List ℕ) (at d : ℕ) (k : Held) (e : ℕ) : Type 0 where
  pub read : read_key (names_used d) (drop at s) ≡ some record { key = key_of k; rest = drop e s }
  pub depth : k.depth ≡ d
  pub beyond : drop (names_used d) k.lens ≡ replicate (8 - names_used d) 0
  pub end : e ≤ length s

-- The code's answer, read at a place for a key of a depth: none exactly where none is to be read.
abbrev pub KeyReadAt : List ℕ → ℕ → ℕ → Maybe (Held × ℕ) → Type 0
KeyReadAt s at d None = read_key (names_used d) (drop at s) ≡ none
KeyReadAt s at d (Some a) = KeyFound s at d a.0 a.1
