-- The names that a held key's arrays hold, packed slot by slot.
use mathlib.Core.Path.{◌≡◌, refl, sym, ◌∙◌}
use mathlib.Core.Bool.{Bool, true, false}
use mathlib.Core.List.{List, [], ◌∷◌, ◌++◌, append-nil, append_assoc}
use Prim.Native.Nat.{ℕ, ◌+◌, ◌-◌, ◌*◌, ◌≤◌, ◌<◌, min}
use native.Mathlib.Numerals.{add-one}
use native.Mathlib.Omega.{arith}
use lib.Dec.{leb}
use lib.ListN.{length, get_or, take, drop, set, length-take, length-drop, length-set, length-append}
use lib.Seq.{take-take, take_all, take-append-le, take-append-add, take-suc-set, length-take-le}
use borrow.Author.Tests.{leb-true, leb-false}
use Rattle.names.specs.Name.{name_most}
use Rattle.names.specs.Overwrite.{overwrite}
use Rattle.names.specs.code.Wrote.{Wrote}
use Rattle.names.specs.Key.{packed}
use Rattle.names.specs.code.HeldKey.{held_name, held_from, name_slot, packed_most}
use Rattle.names.proofs.OverwriteLaws.{overwrite-length}
use Rattle.names.proofs.KeyHeld.{held_more}
use Rattle.names.proofs.KeyPacked.{packed-append}

-- A slot that goes by way of an array of its size.
pub slot-size : (names : List ℕ) (i : ℕ) → length names ≡ 128 → i < 8 → length (name_slot names i) ≡ name_most
unfolding name_slot
slot-size names i e h = length-take-le name_most (drop (name_most * i) names) (rw length-drop (omega arith))

pub slot_copied : (names : List ℕ) (i : ℕ) (out last : List ℕ) (at r : ℕ) → Wrote out at (take (name_most * i + name_most - name_most * i) (drop (name_most * i) names)) last r
    → last ≡ overwrite out at (name_slot names i)
unfolding name_slot
slot_copied names i out last at r w = let q : name_most * i + name_most - name_most * i ≡ name_most = omega arith in w.text ∙ rw q

-- A held name is the front of its slot.
held-front : (names lens : List ℕ) (i l : ℕ) → l ≡ min (get_or lens i 0) name_most → take l (name_slot names i) ≡ held_name names lens i
unfolding name_slot held_name
held-front names lens i l e = rw e (go (leb (get_or lens i 0) name_most) refl)
  where
    go : (b : Bool) → leb (get_or lens i 0) name_most ≡ b
        → take (min (get_or lens i 0) name_most) (take name_most (drop (name_most * i) names)) ≡ take (get_or lens i 0) (take name_most (drop (name_most * i) names))
    go true f = let h : get_or lens i 0 ≤ name_most = leb-true _ _ f in let q : min (get_or lens i 0) name_most ≡ get_or lens i 0 = omega arith in rw q
    go false f =
        let h : name_most < get_or lens i 0 = leb-false _ _ f in
        let q : min (get_or lens i 0) name_most ≡ name_most = omega arith in
        rw (q, take-take name_most name_most (drop (name_most * i) names) (omega arith))
        (sym (take_all (get_or lens i 0) (take name_most (drop (name_most * i) names)) (rw length-take (omega arith))))

front_then : (xs ys zs : List ℕ) (n l : ℕ) → length xs ≡ n → l ≤ length ys → take (n + l) (xs ++ (ys ++ zs)) ≡ xs ++ take l ys
front_then xs ys zs n l e h = rw (← e) (take-append-add xs (ys ++ zs) l ∙ rw (take-append-le l ys zs h))

-- i names stand at the front of out, e bytes of it.
pub record Packing (names lens old out : List ℕ) (i e : ℕ) : Type 0 where
  pub front : take e out ≡ packed (held_from i 0 names lens)
  pub size : e ≡ length (packed (held_from i 0 names lens))
  pub few : e ≤ 17 * i
  pub room : length out ≡ length old

module _ (names lens old : List ℕ) where
  pub pack_none : Packing names lens old old 0 0
  unfolding packed held_from
  pack_none = record { front = refl; size = refl; few = omega arith; room = refl }

  -- One name more: its length, and its slot behind.
  pub pack_more : (out last : List ℕ) (i e l n : ℕ) → length names ≡ 128 → i < n → n ≤ 8 → packed_most + name_most ≤ length old → Packing names lens old out i e → l ≡ min (get_or lens i 0) name_most
      → last ≡ overwrite (set out e l) (e + 1) (name_slot names i) → Packing names lens old last (i + 1) (e + (1 + l))
  unfolding packed overwrite
  pack_more out last i e l n a below most big p q w =
      let h : i < 8 = omega arith in
      let few = p.few in
      let room = p.room in
      let inside : e < length out = omega arith in
      let sized : length (name_slot names i) ≡ name_most = slot-size names i a h in
      let first : take (e + 1) (set out e l) ≡ take e out ++ (l ∷ []) = rw add-one (take-suc-set out e l inside) in
      let long : length (take e out ++ (l ∷ [])) ≡ e + 1 = rw (length-append, length-take-le e out (omega arith)) (omega arith) in
      let fill : length (held_name names lens i) ≡ l = rw (← held-front names lens i l q) (length-take-le l (name_slot names i) (omega arith)) in
      let rest : List ℕ = drop (e + 1 + length (name_slot names i)) (set out e l) in
      let whole : last ≡ (take e out ++ (l ∷ [])) ++ (name_slot names i ++ rest) = w ∙ rw (first, append_assoc) in
      let text : take (e + 1 + l) last ≡ (take e out ++ (l ∷ [])) ++ take l (name_slot names i) =
      rw whole (front_then (take e out ++ (l ∷ [])) (name_slot names i) rest (e + 1) l long (omega arith)) in
      let all : packed (held_from (i + 1) 0 names lens) ≡ (packed (held_from i 0 names lens) ++ (l ∷ [])) ++ held_name names lens i =
      rw (held_more, packed-append, append-nil, fill) (sym (append_assoc (packed (held_from i 0 names lens)) (l ∷ []) (held_name names lens i))) in
      let place : e + (1 + l) ≡ e + 1 + l = omega arith in
      rw place record {
        front = text ∙ rw (p.front, held-front names lens i l q) (sym all);
        size = let s = p.size in rw (all, length-append, length-append, fill) (omega arith);
        few = omega arith;
        room = rw w (overwrite-length (set out e l) (e + 1) (name_slot names i) (rw (length-set, sized) (omega arith)) ∙ length-set out e l ∙ p.room);
      }
