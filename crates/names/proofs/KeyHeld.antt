-- The names that a held key's two arrays hold, and how a store into them changes those.
use mathlib.Core.Path.{◌≡◌, refl, sym, ◌∙◌, ap}
use mathlib.Core.Bool.{Bool, true, false}
use mathlib.Core.List.{List, [], ◌∷◌, ◌++◌}
use Prim.Native.Nat.{ℕ, zero, suc, ◌+◌, ◌*◌, ◌≤◌, ◌<◌}
use native.Mathlib.Decide.{ℕ_discrete}
use native.Mathlib.Nat.{not-suc-le-zero, le_of_suc-le-suc, add-zero, zero-add}
use native.Mathlib.Numerals.{add-one}
use native.Mathlib.Omega.{arith}
use lib.Dec.{ltb}
use lib.ListN.{length, get_or, take, drop, set, length-set}
use lib.Seq.{ext_get_or, get_or-set_same, get_or-set_other, set_out, take-take, length-take-le, take-suc}
use borrow.Author.Tests.{ltb-true, ltb-false, lt-ltb, le-ltb}
use Rattle.names.specs.declared.key.Key.{Key as Held}
use Rattle.names.specs.Name.{name_most}
use Rattle.names.specs.Key.{Name, names_used}
use Rattle.names.specs.code.HeldKey.{held_name, held_from, eight, key_of, slotted}
use Rattle.names.specs.Pick.{pick}
use Rattle.names.specs.Overwrite.{overwrite}
use Rattle.names.specs.code.Wrote.{Wrote}
use Rattle.names.proofs.OverwriteLaws.{overwrite-length, overwrite-text, overwrite-before, overwrite-behind}
use Rattle.names.proofs.KeyDepth.{used_most}

pub held-length : (n i : ℕ) (names lens : List ℕ) → length (held_from n i names lens) ≡ n
unfolding held_from
held-length zero i names lens = refl
held-length (suc n) i names lens = ap suc (held-length n (i + 1) names lens)

pub eight-length : (h : Held) → length (eight h) ≡ 8
unfolding eight
eight-length h = held-length 8 0 h.names h.lens

pub held_at : (n i : ℕ) (names lens : List ℕ) (k : ℕ) → k < n → get_or (held_from n i names lens) k [] ≡ held_name names lens (i + k)
unfolding held_from
held_at zero i names lens k h = absurd (not-suc-le-zero h)
held_at (suc n) i names lens zero h = rw add-zero
held_at (suc n) i names lens (suc k) h = let e : i + 1 + k ≡ i + suc k = omega arith in held_at n (i + 1) names lens k (omega arith) ∙ rw e

pub held-take : (n m i : ℕ) (names lens : List ℕ) → n ≤ m → take n (held_from m i names lens) ≡ held_from n i names lens
unfolding held_from
held-take zero m i names lens h = refl
held-take (suc n) zero i names lens h = absurd (not-suc-le-zero h)
held-take (suc n) (suc m) i names lens h = rw (held-take n m (i + 1) names lens (le_of_suc-le-suc h))

-- One name more.
pub held_more : (i : ℕ) (names lens : List ℕ) → held_from (i + 1) 0 names lens ≡ held_from i 0 names lens ++ (held_name names lens i ∷ [])
held_more i names lens =
    let e : held_from (i + 1) 0 names lens ≡ take (suc i) (held_from (suc i) 0 names lens) = rw (add-one, held-take (suc i) (suc i) 0 names lens (omega arith)) in
    e ∙ take-suc (held_from (suc i) 0 names lens) i [] (rw held-length (omega arith)) ∙ rw (held-take i (suc i) 0 names lens (omega arith), held_at (suc i) 0 names lens i (omega arith), zero-add)

-- The names of a held key.
pub held-key : (h : Held) (n : ℕ) → n ≡ names_used h.depth → key_of h ≡ held_from n 0 h.names h.lens
unfolding key_of eight
held-key h n e = rw (← e) (held-take n 8 0 h.names h.lens (rw e (used_most h.depth)))

pub key-length : (h : Held) → length (key_of h) ≡ names_used h.depth
unfolding key_of
key-length h = length-take-le (names_used h.depth) (eight h) (rw eight-length (used_most h.depth))

-- A list of names is what the arrays hold, if it is so at each place.
held-is : (n : ℕ) (names lens : List ℕ) (l : List Name) → length l ≡ n → ((k : ℕ) → k < n → held_name names lens k ≡ get_or l k []) → held_from n 0 names lens ≡ l
held-is n names lens l e f =
    let h : length (held_from n 0 names lens) ≡ n = held-length n 0 names lens in
    ext_get_or [] (held_from n 0 names lens) l (h ∙ sym e) (λ k b. held_at n 0 names lens k (rw h at b) ∙ rw zero-add (f k (rw h at b)))

-- A name stored in its slot, with its length.
module _ (names lens : List ℕ) (i : ℕ) (name : Name) (slots : length names ≡ 128) (size : length lens ≡ 8) (h : i < 8) (short : length name ≤ name_most) where
  held_new : held_name (overwrite names (name_most * i) name) (set lens i (length name)) i ≡ name
  unfolding held_name
  held_new =
      let l : i < length lens = omega arith in
      let room : name_most * i + length name ≤ length names = omega arith in
      rw (get_or-set_same lens i (length name) 0 l, take-take (length name) name_most (drop (name_most * i) (overwrite names (name_most * i) name)) short)
      (overwrite-text names (name_most * i) name room)

  held_old : (k : ℕ) → (k ≡ i → ⊥) → held_name (overwrite names (name_most * i) name) (set lens i (length name)) k ≡ held_name names lens k
  unfolding held_name
  held_old k ne = rw (get_or-set_other lens i k (length name) 0 ne) (ap (λ (l : List ℕ). take (get_or lens k 0) l) (slot (ltb k i) refl))
    where
      room : name_most * i + length name ≤ length names
      room = omega arith

      slot : (b : Bool) → ltb k i ≡ b → take name_most (drop (name_most * k) (overwrite names (name_most * i) name)) ≡ take name_most (drop (name_most * k) names)
      slot true e = let l : k < i = ltb-true k i e in overwrite-before names (name_most * i) name room (name_most * k) name_most (omega arith)
      slot false e =
          let l : i ≤ k = ltb-false k i e in
          ap (take name_most) (overwrite-behind names (name_most * i) name room (name_most * k) (omega arith))

  pub held-set : held_from 8 0 (overwrite names (name_most * i) name) (set lens i (length name)) ≡ set (held_from 8 0 names lens) i name
  held-set = held-is 8 (overwrite names (name_most * i) name) (set lens i (length name)) (set (held_from 8 0 names lens) i name) (length-set (held_from 8 0 names lens) i name ∙ held-length 8 0 names lens) each
    where
      l : i < length (held_from 8 0 names lens)
      l = rw held-length h

      each : (k : ℕ) → k < 8 → held_name (overwrite names (name_most * i) name) (set lens i (length name)) k ≡ get_or (set (held_from 8 0 names lens) i name) k []
      each k b = elim (ℕ_discrete k i) [
        | yes e ↦ rw (e, get_or-set_same (held_from 8 0 names lens) i name [] l) held_new
        | no e ↦ held_old k e ∙ sym (get_or-set_other (held_from 8 0 names lens) i k name [] e ∙ held_at 8 0 names lens k b ∙ rw zero-add)
      ]

-- The store of a name, as `put_bytes` leaves it.
pub held_stored : (names lens : List ℕ) (i : ℕ) (name out : List ℕ) (r : ℕ) → Wrote names (name_most * i) name out r → length names ≡ 128 → length lens ≡ 8 → i < 8
    → length name ≤ name_most → held_from 8 0 out (set lens i (length name)) ≡ set (held_from 8 0 names lens) i name
held_stored names lens i name out r w a b h k = rw w.text (held-set names lens i name a b h k)

-- The same for slots and lengths wherever they are: there are eight of each.
pub held-slotted : (names lens : List ℕ) (i : ℕ) (name : Name) → length names ≡ 128 → length lens ≡ 8 → length name ≤ name_most
    → held_from 8 0 (slotted names i name) (set lens i (length name)) ≡ set (held_from 8 0 names lens) i name
unfolding slotted pick
held-slotted names lens i name a b k = go (ltb i 8) refl
  where
    go : (t : Bool) → ltb i 8 ≡ t → held_from 8 0 (pick t (overwrite names (name_most * i) name) names) (set lens i (length name)) ≡ set (held_from 8 0 names lens) i name
    go true e = held-set names lens i name a b (ltb-true i 8 e) k
    go false e =
        let h : 8 ≤ i = ltb-false i 8 e in
        rw (set_out lens i (length name) (omega arith), set_out (held_from 8 0 names lens) i name (rw held-length h))

-- A name put into its slot, and its length, where there is such a slot.
pub slot_none : (names : List ℕ) (i : ℕ) (name : Name) → 8 ≤ i → names ≡ slotted names i name
unfolding slotted pick
slot_none names i name h = rw (le-ltb i 8 h)

pub slot-put : (names : List ℕ) (i : ℕ) (name out : List ℕ) (r : ℕ) → i < 8 → Wrote names (name_most * i) name out r → out ≡ slotted names i name
unfolding slotted pick
slot-put names i name out r h w = rw (lt-ltb i 8 h) w.text

pub slotted-length : (names : List ℕ) (i : ℕ) (name : Name) → length names ≡ 128 → length name ≤ name_most → length (slotted names i name) ≡ 128
unfolding slotted pick
slotted-length names i name e k = go (ltb i 8) refl
  where
    go : (t : Bool) → ltb i 8 ≡ t → length (pick t (overwrite names (name_most * i) name) names) ≡ 128
    go true f = let h : i < 8 = ltb-true i 8 f in overwrite-length names (name_most * i) name (omega arith) ∙ e
    go false f = e
