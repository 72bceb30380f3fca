-- The decoder of written values: entities tried one after another, the piece at a place, and the loop over the pieces.
use mathlib.Core.Path.{◌≡◌, refl, sym, ◌∙◌, ap}
use mathlib.Core.Bool.{Bool, true, false, cond, ◌&&◌}
use mathlib.Core.List.{List, [], ◌∷◌, ◌++◌}
use mathlib.Core.Option.{Option, none, some}
use Prim.Native.Nat.{ℕ, zero, suc, ◌+◌, ◌-◌, ◌*◌, ◌^◌, ◌≤◌, ◌<◌}
use native.Mathlib.Numerals.{add-one}
use native.Mathlib.Omega.{arith}
use lib.Dec.{eqb, leb, ltb}
use lib.ListN.{length, get_or, take, drop, set, length-append, length-drop, length-set, get_or-eq_default}
use lib.Seq.{take-nil, take-suc-set, take_all, take-append-le, drop-drop, set_out}
use mir.Syntax.{w64}
use mir.Val.{Fits}
use borrow.Author.Tests.{eq-eqb, ne_eqb, eqb-true, le-leb, lt-leb, leb-true, leb-false, ltb-true, ltb-false}
use Rattle.std.specs.Prelude.{Some, None}
use Rattle.std.specs.Prelude as code
use Rattle.std.proofs.lemmas.Bool.Decides.{nat_tests}
use Rattle.names.specs.Bytes.{bytes, ch, all}
use Rattle.names.specs.Order.{begins}
use Rattle.names.specs.Pick.{pick, ◌and◌}
use Rattle.names.specs.Text.{Written, written, escapes, entities, first_of, piece_at, in_front, decoded_by, decode_from, decode}
use Rattle.names.specs.code.Decoding.{piece_of, holds, too_long, broken, fitted}
use Rattle.names.proofs.PickLaws.{and_is, pick_is}
use Rattle.names.proofs.Stretch.{begins_reaches, begins_longer}
use Rattle.names.proofs.Tests.{and_l, and_r}
use Rattle.names.proofs.Walk.{drop_here, drop_past}

-- The piece at a place.
module _ (s : List ℕ) (at : ℕ) where
  pub piece_entity : (r : code.Option (ℕ × ℕ)) → at < length s → get_or s at 0 ≡ ch "&" → r ≡ piece_of (first_of entities (drop at s)) → r ≡ piece_of (piece_at (get_or s at 0) (drop (at + 1) s))
  unfolding piece_at pick
  piece_entity r h e f = f ∙ rw (drop_here s at h, eq-eqb (get_or s at 0) (ch "&") e)

  pub piece_byte : (get_or s at 0 ≡ ch "&" → ⊥) → Some (get_or s at 0, 1) ≡ piece_of (piece_at (get_or s at 0) (drop (at + 1) s))
  unfolding piece_at pick
  piece_byte e = rw (ne_eqb (get_or s at 0) (ch "&") e)

pub ruleset piece-tests = (piece_entity, piece_byte)

-- An entity that was found is one of those tried, and stands there whole.
found_entity : (p : Written → Bool) (es : List Written) (s : List ℕ) (w : Written) → all p es ≡ true → first_of es s ≡ some w → (p w ≡ true) × (length w.text ≤ length s)
unfolding first_of all pick
found_entity p [] s w a e = let z : ◌≡◌ {A = ℕ} 0 1 = cc in absurd (omega arith)
found_entity p (x ∷ es) s w a e = go (begins eqb x.text s) refl (found_entity p es s w (and_r (p x) _ a)) e
  where
    go : (b : Bool) → begins eqb x.text s ≡ b → (first_of es s ≡ some w → (p w ≡ true) × (length w.text ≤ length s)) → pick b (some x) (first_of es s) ≡ some w
        → (p w ≡ true) × (length w.text ≤ length s)
    go true q ih f = let z : x ≡ w = cc in rw (← z) (and_l (p x) _ a, begins_reaches eqb x.text s q)
    go false q ih f = ih f

-- The bytes of w, none of them 0, stand in r from i on.
abbrev shows : List ℕ → List ℕ → ℕ → Bool
shows [] r i = true
shows (x ∷ w) r i = eqb x (get_or r i 0) && shows w r (i + 1)

shown : (w r : List ℕ) (i : ℕ) → all (ltb 0) w ≡ true → begins eqb w (drop i r) ≡ shows w r i
unfolding begins all
shown [] r i a = refl
shown (x ∷ w) r i a = go (ltb i (length r)) refl (shown w r (i + 1) (and_r (ltb 0 x) _ a))
  where
    go : (b : Bool) → ltb i (length r) ≡ b → begins eqb w (drop (i + 1) r) ≡ shows w r (i + 1) → begins eqb (x ∷ w) (drop i r) ≡ (eqb x (get_or r i 0) && shows w r (i + 1))
    go true e f = let h = ltb-true i (length r) e in rw (drop_here r i h, f) (and_is (eqb x (get_or r i 0)) (shows w r (i + 1)))
    go false e f =
        let h : length r ≤ i = ltb-false i (length r) e in
        let n : x ≡ 0 → ⊥ = (let k = ltb-true 0 x (and_l (ltb 0 x) _ a) in λ q. omega arith) in
        rw (drop_past r i h, get_or-eq_default r 0 h, ne_eqb x 0 n)

-- The same, the length first.
abbrev reads : List ℕ → List ℕ → Bool
reads w r = leb (1 + length w) (length r) && shows w r 1

read_is : (w : List ℕ) (d : ℕ) (r : List ℕ) → all (ltb 0) w ≡ true → begins eqb w r ≡ reads w (d ∷ r)
read_is w d r a = go (leb (1 + length w) (length (d ∷ r))) refl
  where
    go : (b : Bool) → leb (1 + length w) (length (d ∷ r)) ≡ b → begins eqb w r ≡ (b && shows w (d ∷ r) 1)
    go true e = shown w (d ∷ r) 1 a
    go false e = begins_longer w r (let h = leb-false (1 + length w) (length (d ∷ r)) e in omega arith)

-- The entity behind `&`, by the bytes r there.
abbrev told : List ℕ → Option Written
told r =
    cond (eqb (ch "a") (get_or r 0 0)) (cond (reads (bytes "pos;") r) (some (written (bytes "&apos;") (ch "'"))) (cond (reads (bytes "mp;") r) (some (written (bytes "&amp;") (ch "&"))) none))
    (cond (eqb (ch "l") (get_or r 0 0)) (cond (reads (bytes "t;") r) (some (written (bytes "&lt;") (ch "<"))) none)
    (cond (eqb (ch "g") (get_or r 0 0)) (cond (reads (bytes "t;") r) (some (written (bytes "&gt;") (ch ">"))) none)
    (cond (eqb (ch "q") (get_or r 0 0)) (cond (reads (bytes "uot;") r) (some (written (bytes "&quot;") (ch "\""))) none)
    none)))

entity_told : (r : List ℕ) → first_of entities (ch "&" ∷ r) ≡ told r
unfolding first_of entities escapes begins all pick ◌and◌
entity_told [] = refl
entity_told (c ∷ r) = go (eqb 97 c) refl (eqb 108 c) refl (eqb 103 c) refl (eqb 113 c) refl
  where
    go : (a : Bool) → eqb 97 c ≡ a → (l : Bool) → eqb 108 c ≡ l → (g : Bool) → eqb 103 c ≡ g → (q : Bool) → eqb 113 c ≡ q → first_of entities (ch "&" ∷ c ∷ r) ≡ told (c ∷ r)
    go true e l f g h q k = rw (← eqb-true 97 c e) (rw (read_is (bytes "pos;") 97 r refl, read_is (bytes "mp;") 97 r refl) (simp pick_is))
    go false e true f g h q k = rw (← eqb-true 108 c f) (rw (read_is (bytes "t;") 108 r refl) (simp pick_is))
    go false e false f true h q k = rw (← eqb-true 103 c h) (rw (read_is (bytes "t;") 103 r refl) (simp pick_is))
    go false e false f false h true k = rw (← eqb-true 113 c k) (rw (read_is (bytes "uot;") 113 r refl) (simp pick_is))
    go false e false f false h false k = rw (e, f, h, k)

pub entity_tests : (s : List ℕ) (at : ℕ) → at < length s → get_or s at 0 ≡ ch "&" → first_of entities (drop at s) ≡ told (take (length s - (at + 1)) (drop (at + 1) s))
entity_tests s at h e = rw (drop_here s at h, e, take_all (length s - (at + 1)) (drop (at + 1) s) (omega (arith, length-drop (at + 1) s))) (entity_told (drop (at + 1) s))

pub ruleset entity_tells = (nat_tests, entity_tests)

-- A piece has a text, which ends within the value.
piece_fits : (c : ℕ) (s : List ℕ) (w : Written) → piece_at c s ≡ some w → (1 ≤ length w.text) × (length w.text ≤ length (c ∷ s))
unfolding piece_at pick
piece_fits c s w e = go (eqb c (ch "&")) e
  where
    go : (b : Bool) → pick b (first_of entities (c ∷ s)) (some (written (c ∷ []) c)) ≡ some w → (1 ≤ length w.text) × (length w.text ≤ length (c ∷ s))
    go true f = let h = found_entity (λ x. leb 1 (length x.text)) entities (c ∷ s) w (unfold all entities escapes ◌and◌ in refl) f in (leb-true 1 (length w.text) h.0, h.1)
    go false f = let z : written (c ∷ []) c ≡ w = cc in rw (← z) (omega arith, omega arith)

-- What was decoded, in front of what follows it.
unfoldable pub joined : List ℕ → Option (List ℕ) → Option (List ℕ)
joined [] o = o
joined (c ∷ d) o = in_front c (joined d o)

joined-next : (d : List ℕ) (c : ℕ) (o : Option (List ℕ)) → joined d (in_front c o) ≡ joined (d ++ (c ∷ [])) o
unfolding joined
joined-next [] c o = refl
joined-next (x ∷ d) c o = ap (in_front x) (joined-next d c o)

joined_none : (d : List ℕ) → joined d none ≡ none
unfolding joined in_front
joined_none [] = refl
joined_none (x ∷ d) = rw (joined_none d)

joined_end : (d : List ℕ) → joined d (some []) ≡ some d
unfolding joined in_front
joined_end [] = refl
joined_end (x ∷ d) = rw (joined_end d)

-- The bytes of a piece behind its first, passed.
decode-drop : (k : ℕ) (l : List ℕ) → decode_from k l ≡ decode (drop k l)
unfolding decode decode_from
decode-drop zero l = refl
decode-drop (suc k) [] = refl
decode-drop (suc k) (c ∷ s) = decode-drop k s

decode-front : (c : ℕ) (s : List ℕ) → decode (c ∷ s) ≡ decoded_by (piece_at c s) (λ n. decode_from n s)
unfolding decode decode_from
decode-front c s = refl

-- The piece that the code found at i: the decoder goes on behind it, and it lies within the value.
module _ (s : List ℕ) (i : ℕ) (h : i < length s) (r : code.Option (ℕ × ℕ)) (found : r ≡ piece_of (piece_at (get_or s i 0) (drop (i + 1) s))) where
  pub decode_stray : r ≡ None → decode (drop i s) ≡ none
  unfolding decoded_by
  decode_stray e = rw (drop_here s i h) (decode-front (get_or s i 0) (drop (i + 1) s) ∙ go (piece_at (get_or s i 0) (drop (i + 1) s)) (sym e ∙ found))
    where
      go : (o : Option Written) → None ≡ piece_of o → decoded_by o (λ n. decode_from n (drop (i + 1) s)) ≡ none
      go none q = refl
      go (some w) q = cc

  pub decode_piece : (b k : ℕ) → r ≡ Some (b, k) → decode (drop i s) ≡ in_front b (decode (drop (i + k) s))
  unfolding decoded_by
  decode_piece b k e = rw (drop_here s i h) (decode-front (get_or s i 0) (drop (i + 1) s) ∙ go (piece_at (get_or s i 0) (drop (i + 1) s)) refl (sym e ∙ found))
    where
      go : (o : Option Written) → piece_at (get_or s i 0) (drop (i + 1) s) ≡ o → Some (b, k) ≡ piece_of o
          → decoded_by o (λ n. decode_from n (drop (i + 1) s)) ≡ in_front b (decode (drop (i + k) s))
      go none p q = let z : ◌≡◌ {A = ℕ} 0 1 = cc in absurd (omega arith)
      go (some w) p q =
          let v : ◌≡◌ {A = ℕ × ℕ} (b, k) (w.byte, length w.text) = cc in
          let x : b ≡ w.byte = ap (λ (p : ℕ × ℕ). p.0) v in
          let y : k ≡ length w.text = ap (λ (p : ℕ × ℕ). p.1) v in
          let f = piece_fits (get_or s i 0) (drop (i + 1) s) w p in
          let z : i + 1 + (length w.text - 1) ≡ i + k = omega arith in
          rw (decode-drop (length w.text - 1) (drop (i + 1) s), drop-drop (length w.text - 1) (i + 1) s, z, x)

  pub piece_inside : (b k : ℕ) → r ≡ Some (b, k) → (1 ≤ k) × (i + k ≤ length s)
  piece_inside b k e = go (piece_at (get_or s i 0) (drop (i + 1) s)) refl (sym e ∙ found)
    where
      go : (o : Option Written) → piece_at (get_or s i 0) (drop (i + 1) s) ≡ o → Some (b, k) ≡ piece_of o → (1 ≤ k) × (i + k ≤ length s)
      go none p q = let z : ◌≡◌ {A = ℕ} 0 1 = cc in absurd (omega arith)
      go (some w) p q =
          let v : ◌≡◌ {A = ℕ × ℕ} (b, k) (w.byte, length w.text) = cc in
          let y : k ≡ length w.text = ap (λ (p : ℕ × ℕ). p.1) v in
          let f = piece_fits (get_or s i 0) (drop (i + 1) s) w p in
          let l = length-drop (i + 1) s in
          (omega arith, omega arith)

  -- The place behind it: the sum does not wrap, and less is left.
  pub behind-fits : (b k : ℕ) → r ≡ Some (b, k) → length s * 1 < 2 ^ 63 → Fits w64 (i + k)
  behind-fits b k e room = let w = piece_inside b k e in record { fits = omega arith }

  pub behind-less : (b k : ℕ) → r ≡ Some (b, k) → length s - (i + k) < length s - i
  behind-less b k e = let w = piece_inside b k e in omega arith

-- The loop: the n bytes decoded before i, of which out, with this much room, keeps those that it can.
pub record Decoding (s : List ℕ) (room : ℕ) (out : List ℕ) (i n : ℕ) : Type 0 where
  pub got : List ℕ
  pub count : length got ≡ n
  pub left : decode s ≡ joined got (decode (drop i s))
  pub kept : take room got ≡ take n out
  pub size : length out ≡ room
  pub inside : i ≤ length s
  pub few : n ≤ i

pub decoding_none : (s out : List ℕ) → Decoding s (length out) out 0 0
unfolding joined
decoding_none s out = record { got = []; count = refl; left = refl; kept = take-nil (length out); size = refl; inside = omega arith; few = omega arith }

kept_next : (got out : List ℕ) (room n b : ℕ) → length got ≡ n → length out ≡ room → take room got ≡ take n out → take room (got ++ (b ∷ [])) ≡ take (n + 1) (set out n b)
kept_next got out room n b count size kept = go (ltb n room) refl
  where
    go : (t : Bool) → ltb n room ≡ t → take room (got ++ (b ∷ [])) ≡ take (n + 1) (set out n b)
    go true e =
        let h : n < room = ltb-true n room e in
        let l : length (got ++ (b ∷ [])) ≤ room = rw length-append (omega arith) in
        let k : n < length out = omega arith in
        let g : length got ≤ room = omega arith in
        rw (take_all room (got ++ (b ∷ [])) l, add-one, take-suc-set out n b k, ← kept, take_all room got g)
    go false e =
        let h : room ≤ n = ltb-false n room e in
        let g : room ≤ length got = omega arith in
        let o : length out ≤ n = omega arith in
        let o1 : length out ≤ n + 1 = omega arith in
        rw (take-append-le room got (b ∷ []) g, set_out out n b o, take_all (n + 1) out o1, kept, take_all n out o)

module _ (s : List ℕ) (room : ℕ) (out : List ℕ) (i n : ℕ) (d : Decoding s room out i n) where
  pub decoding_more : (r : code.Option (ℕ × ℕ)) (b k : ℕ) (x : List ℕ) → x ≡ set out n b → i < length s → r ≡ piece_of (piece_at (get_or s i 0) (drop (i + 1) s)) → r ≡ Some (b, k)
      → Decoding s room x (i + k) (n + 1)
  decoding_more r b k x put h f e =
      let w = piece_inside s i h r f b k e in
      let few = d.few in
      let len : length x ≡ room = rw put (length-set out n b ∙ d.size) in
      record {
        got = d.got ++ (b ∷ []);
        count = rw (length-append, d.count);
        left = d.left ∙ rw (decode_piece s i h r f b k e) (joined-next d.got b (decode (drop (i + k) s)));
        kept = rw put (kept_next d.got out room n b d.count d.size d.kept);
        size = len;
        inside = omega arith;
        few = omega arith;
      }

  pub decoding_broken : (r : code.Option (ℕ × ℕ)) → i < length s → r ≡ piece_of (piece_at (get_or s i 0) (drop (i + 1) s)) → r ≡ None → broken ≡ fitted room (decode s)
  unfolding fitted
  decoding_broken r h f e = sym (rw (d.left, decode_stray s i h r f e, joined_none d.got))

  all-decoded : length s ≤ i → decode s ≡ some d.got
  unfolding decode decode_from
  all-decoded h = d.left ∙ rw (drop_past s i h) (joined_end d.got)

  pub decoding_too_long : length s ≤ i → length out < n → too_long ≡ fitted room (decode s)
  unfolding fitted pick
  decoding_too_long h k =
      let count = d.count in
      let size = d.size in
      let b : leb (length d.got) room ≡ false = lt-leb (length d.got) room (omega arith) in
      sym (rw (all-decoded h, b))

  pub decoding_all : length s ≤ i → n ≤ length out → holds (take n out) ≡ fitted room (decode s)
  unfolding fitted pick
  decoding_all h k =
      let count = d.count in
      let size = d.size in
      let l : length d.got ≤ room = omega arith in
      let b : leb (length d.got) room ≡ true = le-leb (length d.got) room l in
      sym (rw (all-decoded h, b, ← d.kept, take_all room d.got l))
