-- Runs of bytes that pass a test: joined, scanned on, and tested a block at a time; bytes of names, and bytes that stand in a value as they are.
use mathlib.Core.Path.{◌≡◌, refl, sym, ◌∙◌, ap}
use mathlib.Core.Bool.{Bool, true, false, not, false≢true, ◌&&◌}
use mathlib.Core.List.{List, [], ◌∷◌, ◌++◌}
use Rattle.std.specs.Prelude.{Some}
use Rattle.std.proofs.lemmas.List.{length-take-le}
use Prim.Native.Nat.{ℕ, zero, suc, ◌+◌, ◌-◌, ◌≤◌, ◌<◌}
use native.Mathlib.Omega.{arith}
use lib.Dec.{eqb, leb}
use native.Mathlib.Decide.{dec_lt}
use Rattle.std.specs.Char.{is_ascii_alphanumeric}
use lib.ListN.{length, get_or, take, drop, length-append, length-take, length-drop}
use lib.Seq.{take-nil, take_all, take-take, drop-drop, get_or-take, get_or-drop, take-append_seam, drop-append_seam}
use borrow.Author.Tests.{ne_eqb, eqb-true, le-leb, lt-leb, not-true}
use Rattle.names.specs.Bytes.{all, ch}
use Rattle.names.specs.Class.{class_of, is_letter, is_white, is_markup, is_value_byte}
use Rattle.names.specs.Pick.{pick, ◌and◌}
use Rattle.names.specs.Scan.{front, after}
use Rattle.names.specs.code.Scanned.{Scanned}
use Rattle.names.specs.Text.{piece_at, decoded_by, decode_from, decode, in_value}
use Rattle.names.proofs.ClassLaws.{byte-rules, agree, agreed}
use Rattle.names.proofs.ScanLaws.{scanned, scan_stop, scan_end, front-after, front-all}
use Rattle.names.proofs.Tests.{and_l, and_r, and_i, and_true, not_then, at-below, implies, implied, all_implied}
use Rattle.names.proofs.Walk.{drop_here, drop_past, drop-take}
use Rattle.reader.specs.code.Places.{is_some, Behind, equals, ValueTo}
use Rattle.reader.specs.code.ByteRun.{is_bare, is_unescaped, Runs}
use Rattle.reader.specs.Tag.{is_tag_byte}
use Rattle.reader.proofs.Pieces.{equals_here, to_here}
use Rattle.reader.proofs.PiecePlaces.{behind-yes}
use Rattle.reader.proofs.TagBytes.{letter_tag, some_front, value_own}

module _ (p : ℕ → Bool) where
  all_split : (m k : ℕ) (l : List ℕ) → all p (take m l) ≡ true → all p (take k (drop m l)) ≡ true → all p (take (m + k) l) ≡ true
  unfolding all
  all_split zero k l e f = let z : 0 + k ≡ k = omega arith in rw z f
  all_split (suc m) k [] e f = rw (take-nil (suc m + k))
  all_split (suc m) k (x ∷ l) e f =
      let z : suc m + k ≡ suc (m + k) = omega arith in
      rw z (and_i (p x) (all p (take (m + k) l)) (and_l (p x) _ e) (all_split m k l (and_r (p x) _ e) f))

  all_after : (m : ℕ) (l : List ℕ) → all p (take m l) ≡ true → all p l ≡ all p (drop m l)
  unfolding all ◌and◌
  all_after zero l e = refl
  all_after (suc m) [] e = refl
  all_after (suc m) (x ∷ l) e = rw (and_l (p x) _ e) (all_after m l (and_r (p x) _ e))

  after-all : (m : ℕ) (l : List ℕ) → all p (take m l) ≡ true → after p l ≡ after p (drop m l)
  unfolding all after pick
  after-all zero l e = refl
  after-all (suc m) [] e = refl
  after-all (suc m) (x ∷ l) e = rw (and_l (p x) _ e) (after-all m l (and_r (p x) _ e))

-- A text's part from a place on goes to its end.
pub rest_whole : (s : List ℕ) (at : ℕ) → take (length s - at) (drop at s) ≡ drop at s
rest_whole s at = let h : length (drop at s) ≤ length s - at = rw length-drop (omega arith) in take_all (length s - at) (drop at s) h

-- A block b of 64 bytes, and what the text goes on with.
module _ (s : List ℕ) (i : ℕ) (b t : List ℕ) (e : drop i s ≡ b ++ t) (l : length b ≡ 64) where
  pub block_within : i ≤ length s → i + 64 ≤ length s
  block_within h = let k : length s - i ≡ length b + length t = sym (length-drop i s) ∙ ap length e ∙ length-append b t in omega arith

  pub block_rest : t ≡ drop (i + 64) s
  block_rest = rw (← l, ← drop-drop (length b) i s, e) (sym (drop-append_seam b t))

-- Runs.
module _ (p : ℕ → Bool) (s : List ℕ) (at : ℕ) where
  pub runs_none : at ≤ length s → Runs p s at at
  unfolding all
  runs_none h = let z : at - at ≡ 0 = omega arith in record { each = rw z; low = omega arith; high = h }

  module _ (i : ℕ) (u : Runs p s at i) where
    pub runs_join : (r : ℕ) → Runs p s i r → Runs p s at r
    runs_join r v =
        let a = u.low in
        let b = v.low in
        let z : r - at ≡ (i - at) + (r - i) = omega arith in
        let y : at + (i - at) ≡ i = omega arith in
        record {
          each = rw z (all_split p (i - at) (r - i) (drop at s) u.each (rw (drop-drop (i - at) at s, y) v.each));
          low = omega arith;
          high = v.high;
        }

    pub runs_on : (t : Bool) → t ≡ p (get_or s i 0) → t ≡ true → i < length s → Runs p s at (i + 1)
    unfolding all ◌and◌
    runs_on t e f h =
        let z : i + 1 - i ≡ 1 = omega arith in
        runs_join (i + 1) record { each = rw (z, drop_here s i h, ← e, f); low = omega arith; high = omega arith }

    -- A block b is passed, and the text goes on as t.
    pub runs_block : (b t : List ℕ) → drop i s ≡ b ++ t → length b ≡ 64 → (r : Bool) → r ≡ all p b → r ≡ true → Runs p s at (i + 64)
    runs_block b t e l r f g =
        let h = block_within s i b t e l u.high in
        let z : i + 64 - i ≡ length b = omega arith in
        runs_join (i + 64) record { each = rw (z, e, take-append_seam b t) (sym f ∙ g); low = omega arith; high = h }

    passed : after p (drop at s) ≡ after p (drop i s)
    passed =
        let a = u.low in
        let y : at + (i - at) ≡ i = omega arith in
        after-all p (i - at) (drop at s) u.each ∙ rw (drop-drop (i - at) at s, y)

    pub runs_stop : (t : Bool) → t ≡ p (get_or s i 0) → t ≡ false → i < length s → Scanned p s at i
    runs_stop t e f h = scanned p s at i (scan_stop p s at i passed t e f h) u.low u.high

    pub runs_end : length s ≤ i → Scanned p s at i
    runs_end h = scanned p s at i (scan_end p s at i passed h) u.low u.high

    pub runs_scanned : (r : ℕ) → Scanned p s i r → Scanned p s at r
    runs_scanned r w =
        let a = u.low in
        let b = w.low in
        scanned p s at r (w.left ∙ sym passed) (omega arith) w.high

-- `=` with no white space around it.
pub equals_bare : (s : List ℕ) (at : ℕ) (t : Bool) → get_or s at 0 ≡ ch "=" → t ≡ is_white (get_or s (at + 1) 0) → t ≡ false → 2 ≤ length s - at
    → Behind s at (Some (at + 1)) (equals (drop at s))
equals_bare s at t e f g h =
    let k : at < length s = omega arith in
    let l : at + 1 < length s = omega arith in
    let m : at ≤ length s = omega arith in
    let n : at + 1 ≤ length s = omega arith in
    let w : false ≡ is_white (get_or s at 0) = unfold is_white in rw e in
    equals_here s at at (runs_stop is_white s at at (runs_none is_white s at m) false w refl k) (at + 1) (behind-yes s at (ch "=") k e) (at + 1)
    (runs_stop is_white s (at + 1) (at + 1) (runs_none is_white s (at + 1) n) t f g l)

-- Tests without an early exit: x says that those made were passed, and the rest are still to be made.
pub and_both : (x t rest : Bool) → (x and t and rest) ≡ ((x && t) and rest)
unfolding ◌and◌
and_both true t rest = refl
and_both false t rest = refl

module _ (p : ℕ → Bool) (s : List ℕ) (i : ℕ) (x : Bool) (inv : all p s ≡ (x and all p (drop i s))) where
  pub pass_next : (t : Bool) → t ≡ p (get_or s i 0) → i < length s → all p s ≡ ((x && t) and all p (drop (i + 1) s))
  unfolding all
  pass_next t e h = inv ∙ rw (drop_here s i h, ← e) (and_both x t _)

  pub pass-end : length s ≤ i → x ≡ all p s
  unfolding all
  pass-end h = sym (inv ∙ rw (drop_past s i h) (and_true x))

-- The bytes at the front that pass the test: those that are taken, what is left of them, and the first that does not pass.
module _ (p : ℕ → Bool) where
  front_take : (l : List ℕ) → take (length (front p l)) l ≡ front p l
  front_take l = ap (take (length (front p l))) (sym (front-after p l)) ∙ take-append_seam (front p l) (after p l)

  front_few : (l : List ℕ) → length (front p l) ≤ length l
  front_few l = let e = sym (length-append (front p l) (after p l)) ∙ ap length (front-after p l) in omega arith

  front_stop : (l : List ℕ) → length (front p l) < length l → p (get_or l (length (front p l)) 0) ≡ false
  unfolding front pick
  front_stop [] h = absurd (omega arith)
  front_stop (x ∷ xs) h = go (p x) refl h (front_stop xs)
    where
      go : (b : Bool) → p x ≡ b → length (pick b (x ∷ front p xs) []) < suc (length xs) → (length (front p xs) < length xs → p (get_or xs (length (front p xs)) 0) ≡ false)
          → p (get_or (x ∷ xs) (length (pick b (x ∷ front p xs) [])) 0) ≡ false
      go true e h ih = ih (omega arith)
      go false e h ih = e

  -- Of n bytes from a place on.
  module _ (s : List ℕ) (at n : ℕ) (inside : at + n ≤ length s) where
    abbrev passing : ℕ
    passing = length (front p (take n (drop at s)))

    passing_few : passing ≤ n
    passing_few = let h = front_few (take n (drop at s)) in let e = length-take n (drop at s) in omega arith

    pub front_runs : Runs p s at (at + passing)
    front_runs =
        let few = passing_few in
        let z : at + passing - at ≡ passing = omega arith in
        record { each = rw (z, ← take-take passing n (drop at s) few, front_take (take n (drop at s))) (front-all p (take n (drop at s))); low = omega arith; high = omega arith }

    pub front_scanned : passing < n → Scanned p s at (at + passing)
    front_scanned h =
        let e = length-take n (drop at s) in
        let d = length-drop at s in
        let f = front_stop (take n (drop at s)) (omega arith) in
        runs_stop p s at (at + passing) front_runs false (sym (rw (get_or-take n (drop at s) passing 0 h, get_or-drop at s passing 0) at f)) refl (omega arith)

    pub front-end : at + n ≡ length s → Scanned p s at (at + passing)
    front-end e = go (dec_lt passing n)
      where
        go : Dec (passing < n) → Scanned p s at (at + passing)
        go (yes h) = front_scanned h
        go (no h) = runs_end p s at (at + passing) front_runs (omega arith)

-- Bytes that begin no entity are decoded as they are: whether a value is decoded is told by what follows them.
unescaped_passed : (m : ℕ) (l : List ℕ) → all is_unescaped (take m l) ≡ true → is_some (decode l) ≡ is_some (decode (drop m l))
unfolding all decode decode_from piece_at decoded_by pick is_unescaped
unescaped_passed zero l e = refl
unescaped_passed (suc m) [] e = refl
unescaped_passed (suc m) (x ∷ l) e =
    rw (not-true (eqb x (ch "&")) (and_l (is_unescaped x) _ e)) (some_front x (decode_from 0 l) ∙ unescaped_passed m l (and_r (is_unescaped x) _ e))

-- A whole text behind blocks of it.
module _ (s : List ℕ) (i : ℕ) where
  pub runs_all : (p : ℕ → Bool) → Runs p s 0 i → all p s ≡ all p (drop i s)
  runs_all p u = let z : i - 0 ≡ i = omega arith in all_after p i s (rw (← z) u.each)

  pub runs_decoded : Runs is_unescaped s 0 i → is_some (decode s) ≡ is_some (decode (drop i s))
  runs_decoded u = let z : i - 0 ≡ i = omega arith in unescaped_passed i s (rw (← z) u.each)

-- A run of one white byte is one of white space.
repeated_white : (w b : ℕ) → is_white w ≡ true → eqb b w ≡ true → is_white b ≡ true
repeated_white w b h e = let z : b ≡ w = eqb-true b w e in rw z h

pub runs_repeated : (s : List ℕ) (at r w : ℕ) → is_white w ≡ true → Runs (λ b. eqb b w) s at r → Runs is_white s at r
runs_repeated s at r w h u =
    record { each = all_implied (λ b. eqb b w) is_white (λ b. repeated_white w b h) (take (r - at) (drop at s)) u.each; low = u.low; high = u.high }

-- A run in the front of a text is one of the text.
pub runs_front : (p : ℕ → Bool) (s : List ℕ) (at r e : ℕ) → e ≤ length s → Runs p (take e s) at r → Runs p s at r
runs_front p s at r e h u =
    let k : length (take e s) ≡ e = length-take-le e s h in
    let a = u.low in
    let b = u.high in
    record {
      each = sym (ap (all p) (ap (take (r - at)) (drop-take at e s) ∙ take-take (r - at) (e - at) (drop at s) (omega arith))) ∙ u.each;
      low = u.low;
      high = omega arith;
    }

-- A tag byte, told by comparisons.
pub alphanumeric : (b : ℕ) → b < 256 → (b ≡ ch ":" → ⊥) → is_ascii_alphanumeric b ≡ is_tag_byte b
unfolding byte-rules is_tag_byte
alphanumeric b h n =
    agreed (is_ascii_alphanumeric b) (is_tag_byte b)
    (implied (not (eqb b 58)) _ (at-below 256 (λ c. implies (not (eqb c 58)) (agree (is_ascii_alphanumeric c) (is_tag_byte c))) refl b h) (rw (ne_eqb b 58 n)))

-- A letter and the tag bytes behind it.
pub name-behind : (s : List ℕ) (at r : ℕ) (t : Bool) → t ≡ is_letter (get_or s at 0) → t ≡ true → at < length s → Scanned is_tag_byte s (at + 1) r → Scanned is_tag_byte s at r
name-behind s at r t e f h w =
    let k : at ≤ length s = omega arith in
    runs_scanned is_tag_byte s at (at + 1) (runs_on is_tag_byte s at at (runs_none is_tag_byte s at k) true (sym (letter_tag (get_or s at 0) (sym e ∙ f))) refl h) r w

-- Bytes that stand as they are, by their class.
module _ (b k : ℕ) (h : b < 256) (e : k ≡ class_of b) where
  pub bare_low : k < 2 → leb 2 k ≡ is_bare b
  unfolding byte-rules is_bare
  bare_low l =
      let z : leb 2 (class_of b) ≡ false = rw (← e) (lt-leb 2 k l) in
      lt-leb 2 k l ∙ sym (not_then (is_bare b) (λ q. false≢true (sym z ∙ implied (is_bare b) (leb 2 (class_of b)) (at-below 256 (λ c. implies (is_bare c) (leb 2 (class_of c))) refl b h) q)))

  pub bare_class : 2 ≤ k → not (eqb k 4) ≡ is_bare b
  unfolding byte-rules is_bare
  bare_class l =
      rw e
      (agreed (not (eqb (class_of b) 4)) (is_bare b)
      (implied (leb 2 (class_of b)) _ (at-below 256 (λ c. implies (leb 2 (class_of c)) (agree (not (eqb (class_of c) 4)) (is_bare c))) refl b h) (rw (← e) (le-leb 2 k l))))

pub ruleset bare_bytes = (bare_low, bare_class)

-- They may stand in a value, and are decoded as they are.
unmarked : (b : ℕ) → is_bare b ≡ true → is_markup b ≡ false
unfolding is_bare
unmarked b e = not-true (is_markup b) (and_r (not (is_white b)) _ (and_r (is_value_byte b) _ e))

no-mark : (q b : ℕ) → is_markup q ≡ true → is_bare b ≡ true → eqb b q ≡ false
no-mark q b e f = not_then (eqb b q) (λ g. false≢true (sym (unmarked b f) ∙ rw (eqb-true b q g) e))

bare_value : (q b : ℕ) → is_markup q ≡ true → is_bare b ≡ true → in_value q b ≡ true
unfolding in_value ◌and◌
bare_value q b e f =
    let v : is_value_byte b ≡ true = unfold is_bare in and_l (is_value_byte b) _ f in
    rw (v, no-mark (ch "<") b (unfold is_markup in refl) f, no-mark q b e f)

bare_unescaped : (b : ℕ) → is_bare b ≡ true → is_unescaped b ≡ true
unfolding is_unescaped
bare_unescaped b e = rw (no-mark (ch "&") b (unfold is_markup in refl) e)

bare_decodes : (l : List ℕ) → all is_bare l ≡ true → is_some (decode l) ≡ true
bare_decodes l e =
    let h : length l ≤ length l = omega arith in
    unescaped_passed (length l) l (rw (take_all (length l) l h) (all_implied is_bare is_unescaped bare_unescaped l e))
    ∙ rw (drop_past l (length l) h) (unfold decode decode_from is_some in refl)

-- A value whose first bytes are bare, and one whose bytes all are.
module _ (q : ℕ) (mark : is_markup q ≡ true) (s : List ℕ) (at p : ℕ) (u : Runs is_bare s at p) where
  bare_in_value : Runs (in_value q) s at p
  bare_in_value = record { each = all_implied is_bare (in_value q) (λ b. bare_value q b mark) (take (p - at) (drop at s)) u.each; low = u.low; high = u.high }

  pub written_scanned : (e : ℕ) → Scanned (in_value q) s p e → Scanned (in_value q) s at e
  written_scanned e w = runs_scanned (in_value q) s at p bare_in_value e w

  pub bare_to : p < length s → get_or s p 0 ≡ q → ValueTo q s at (Some p)
  bare_to h e =
      to_here q s at p (runs_stop (in_value q) s at p bare_in_value false (value_own q (get_or s p 0) e) refl h) (p + 1) (behind-yes s p q h e) true
      (sym (bare_decodes (take (p - at) (drop at s)) u.each)) refl
