-- The bytes of one change: what the end of its key says of the whole change, and that a row's change, whose bytes are read up to the end of the buffer, is
-- the one that its own bytes hold.
use mathlib.Core.Path.{◌≡◌, refl, sym, ◌∙◌, ap}
use mathlib.Core.Bool.{Bool, true, false, false≢true}
use mathlib.Core.List.{List, [], ◌∷◌, ◌++◌}
use mathlib.Core.Option.{Option, none, some}
use Prim.Native.Nat.{ℕ, ◌+◌, ◌-◌, ◌≤◌}
use native.Mathlib.Omega.{arith}
use lib.Dec.{eqb}
use lib.ListN.{length, take, drop, length-append, length-drop}
use lib.Seq.{take-length, drop-drop}
use borrow.Author.Tests.{le-leb, ne_eqb}
use Rattle.std.specs.Prelude.{Option as Found, Some, None, slice_range}
use Rattle.std.proofs.lemmas.List.{take_rest}
use Rattle.names.specs.Key.{Key, names_used, depth_of, is_key, packed, names_in}
use Rattle.names.specs.code.HeldKey.{packed_most, KeyRead, read_key}
use Rattle.names.specs.Name.{is_value}
use Rattle.names.specs.Pick.{pick, ◌and◌}
use Rattle.names.proofs.Walk.{drop-take}
use Rattle.names.proofs.KeyForm.{depth_used, key-most}
use Rattle.names.proofs.KeyPacked.{packed-read}
use Rattle.store.specs.Change.{change, is_item, is_null, is_change, value_fits}
use Rattle.store.specs.code.Entry.{after_key, entry_fits, change_fits, SizeIfFits}
use Rattle.store.specs.Image.{bytes_size, kind_of, change_in}
use Rattle.store.specs.code.Layout.{is_whole, row_bytes, row_fits}
use Rattle.store.specs.Machine.{bytes_most}
use Rattle.store.specs.code.Rows.{packed_at, kind_at, depth_at, end_at, start_at, key_start, key_at, value_at, change_at}
use Rattle.store.proofs.Layouts.EntryKeys.{read_length, read_names, read-rest}

clash : (A : Type 0) (r : A) → none ≡ some r → ⊥
clash A r e = let z : ◌≡◌ {A = ℕ} 0 1 = cc in omega arith

-- The change that whole bytes hold.
change-whole : (kind depth : ℕ) (s : List ℕ) (r : KeyRead) → read_key (names_used depth) s ≡ some r → change_in kind depth s ≡ change (kind_of kind) r.key r.rest
unfolding change_in
change-whole kind depth s r e =
    let k : names_in (names_used depth) s ≡ r.key = read_names (names_used depth) (length s) s r (rw take-length e) in
    rw k (ap (λ (v : List ℕ). change (kind_of kind) r.key v) (read-rest (names_used depth) s r e))

module _ (kind depth : ℕ) (low : 1 ≤ depth) (high : depth ≤ 5) (s : List ℕ) where
  formed : (r : KeyRead) → read_key (names_used depth) s ≡ some r
      → entry_fits kind depth s ≡ (is_key r.key and is_value r.rest and value_fits (kind_of kind) (eqb depth 5) (is_null r.rest))
  unfolding entry_fits is_whole is_change is_item ◌and◌
  formed r e =
      let d : depth_of r.key ≡ depth = depth_used depth r.key low high (read_length (names_used depth) s r e) in
      rw (e, change-whole kind depth s r e, d)

  entry_by : (v : List ℕ) → after_key is_key (read_key (names_used depth) s) ≡ some v
      → entry_fits kind depth s ≡ (is_value v and value_fits (kind_of kind) (eqb depth 5) (is_null v))
  unfolding after_key pick ◌and◌
  entry_by v e = go (read_key (names_used depth) s) refl e
    where
      go : (o : Option KeyRead) → read_key (names_used depth) s ≡ o → after_key is_key o ≡ some v
          → entry_fits kind depth s ≡ (is_value v and value_fits (kind_of kind) (eqb depth 5) (is_null v))
      go none f e = absurd (clash (List ℕ) v e)
      go (some r) f e = key (is_key r.key) refl e
        where
          key : (b : Bool) → is_key r.key ≡ b → pick b (some r.rest) none ≡ some v
              → entry_fits kind depth s ≡ (is_value v and value_fits (kind_of kind) (eqb depth 5) (is_null v))
          key true g e = let w : r.rest ≡ v = cc in rw (formed r f, g, w)
          key false g e = absurd (clash (List ℕ) v e)

  entry_not : after_key is_key (read_key (names_used depth) s) ≡ none → entry_fits kind depth s ≡ false
  unfolding after_key entry_fits is_whole pick ◌and◌
  entry_not e = go (read_key (names_used depth) s) refl e
    where
      go : (o : Option KeyRead) → read_key (names_used depth) s ≡ o → after_key is_key o ≡ none → entry_fits kind depth s ≡ false
      go none f e = rw f
      go (some r) f e = key (is_key r.key) refl e
        where
          key : (b : Bool) → is_key r.key ≡ b → pick b (some r.rest) none ≡ none → entry_fits kind depth s ≡ false
          key true g e = absurd (clash (List ℕ) r.rest (sym e))
          key false g e = formed r f ∙ rw g

null-empty : (v : List ℕ) → is_null v ≡ eqb (length v) 0
unfolding is_null
null-empty [] = refl
null-empty (c ∷ v) = sym (ne_eqb (length (c ∷ v)) 0 (λ z. omega arith))

-- A key that is read and passes its test, and the bytes that it takes.
key-read : (o : Option KeyRead) (v : List ℕ) → after_key is_key o ≡ some v → (r : KeyRead) × (o ≡ some r) × (is_key r.key ≡ true) × (r.rest ≡ v)
unfolding after_key pick
key-read none v e = absurd (clash (List ℕ) v e)
key-read (some r) v e = go (is_key r.key) refl e
  where
    go : (b : Bool) → is_key r.key ≡ b → pick b (some r.rest) none ≡ some v → (q : KeyRead) × (some r ≡ some q) × (is_key q.key ≡ true) × (q.rest ≡ v)
    go true g e = (r, refl, g, cc)
    go false g e = absurd (clash (List ℕ) v e)

-- The size of a key, by what stands behind it.
module _ (n : ℕ) (s v : List ℕ) (e : after_key is_key (read_key n s) ≡ some v) where
  key_sized : (length v ≤ length s) × (length s - length v ≡ length (packed (names_in n s))) × (length s - length v ≤ packed_most)
  key_sized =
      let q = key-read (read_key n s) v e in
      let r : KeyRead = q.0 in
      let names : names_in n s ≡ r.key = read_names n (length s) s r (rw take-length q.1) in
      let all : length (packed r.key ++ r.rest) ≡ length s = ap length (packed-read n s r q.1).0 in
      let parts : length (packed r.key ++ r.rest) ≡ length (packed r.key) + length r.rest = length-append (packed r.key) r.rest in
      let value : length r.rest ≡ length v = ap length q.3 in
      let high : length (packed r.key) ≤ packed_most = key-most r.key q.2 in
      rw names (omega arith, omega arith, omega arith)

  pub behind_shorter : length v ≤ length s
  behind_shorter = key_sized.0

-- The code's steps: what stands behind the key, the answer for it as a value, the answer for kind and depth.
module _ (s : List ℕ) (kind depth n : ℕ) (count : n ≡ names_used depth) (low : 1 ≤ depth) (high : depth ≤ 5) where
  pub entry_no-key : after_key is_key (read_key n s) ≡ none → entry_fits kind depth s ≡ false
  entry_no-key e = entry_not kind depth low high s (rw count at e)

  module _ (v : List ℕ) (e : after_key is_key (read_key n s) ≡ some v) (t : Bool) (test : t ≡ is_value v) where
    whole : entry_fits kind depth s ≡ (t and value_fits (kind_of kind) (eqb depth 5) (is_null v))
    whole = entry_by kind depth low high s v (rw count at e) ∙ rw test

    pub entry_no-value : t ≡ false → entry_fits kind depth s ≡ false
    unfolding ◌and◌
    entry_no-value f = whole ∙ rw f

    module _ (f : t ≡ true) (w : Bool) (g : w ≡ value_fits (kind_of kind) (eqb depth 5) (eqb (length v) 0)) where
      by_value : entry_fits kind depth s ≡ w
      unfolding ◌and◌
      by_value = whole ∙ rw (f, null-empty v) (sym g)

      pub entry_misfit : w ≡ false → entry_fits kind depth s ≡ false
      entry_misfit h = by_value ∙ h

      pub entry_fit : w ≡ true → SizeIfFits (entry_fits kind depth s) (names_in (names_used depth) s) (Some (length s - length v))
      entry_fit h = (by_value ∙ h, rw count at (key_sized n s v e).1, (key_sized n s v e).2)

pub ruleset entry-cases = (entry_no-key, entry_no-value, entry_misfit, entry_fit)

-- A row's own bytes, from the first change byte on.
module _ (bs : List ℕ) (kind depth start end : ℕ) where
  entry_names : entry_fits kind depth (take (end - start) (drop (packed_at + start) bs)) ≡ true
      → names_in (names_used depth) (take (end - start) (drop (packed_at + start) bs)) ≡ names_in (names_used depth) (drop (packed_at + start) bs)
  unfolding entry_fits is_whole ◌and◌
  entry_names e = go (read_key (names_used depth) (take (end - start) (drop (packed_at + start) bs))) refl e
    where
      go : (o : Option KeyRead) → read_key (names_used depth) (take (end - start) (drop (packed_at + start) bs)) ≡ o
          → (is_whole o and is_change (change_in kind depth (take (end - start) (drop (packed_at + start) bs)))) ≡ true
          → names_in (names_used depth) (take (end - start) (drop (packed_at + start) bs)) ≡ names_in (names_used depth) (drop (packed_at + start) bs)
      go none f e = absurd (false≢true e)
      go (some r) f e = read_names (names_used depth) (length (take (end - start) (drop (packed_at + start) bs))) _ r (rw take-length f)
          ∙ sym (read_names (names_used depth) (end - start) (drop (packed_at + start) bs) r f)

  change_by : 1 ≤ kind → kind ≤ 3 → 1 ≤ depth → depth ≤ 5 → start ≤ end → end ≤ bytes_most
      → change_fits kind depth start end bs ≡ entry_fits kind depth (take (end - start) (drop (packed_at + start) bs))
  unfolding change_fits ◌and◌
  change_by a b c d e f = rw (le-leb 1 kind a, le-leb kind 3 b, le-leb 1 depth c, le-leb depth 5 d, le-leb start end e, le-leb end bytes_most f)

  pub change_entry : length bs ≡ bytes_size → (s : List ℕ) (r : Found ℕ)
      → (start ≤ end) × (end ≤ length (take (length bs - packed_at) (drop packed_at bs)))
      → s ≡ slice_range (take (length bs - packed_at) (drop packed_at bs)) start end
      → 1 ≤ kind → kind ≤ 3 → 1 ≤ depth → depth ≤ 5
      → SizeIfFits (entry_fits kind depth s) (names_in (names_used depth) s) r
      → SizeIfFits (change_fits kind depth start end bs) (names_in (names_used depth) (drop (packed_at + start) bs)) r
  change_entry size s r (order, within) part a b c d g =
      let inside : end ≤ length (drop packed_at bs) = rw (take_rest bs packed_at) at within in
      let most : end ≤ bytes_most = omega (arith, length-drop {A = ℕ} packed_at bs) in
      let q : s ≡ take (end - start) (drop (packed_at + start) bs) = part ∙ rw (take_rest bs packed_at, drop-drop start packed_at bs) in
      told r (change_by a b c d order most) (rw q at g)
    where
      told : (r : Found ℕ) → change_fits kind depth start end bs ≡ entry_fits kind depth (take (end - start) (drop (packed_at + start) bs))
          → SizeIfFits (entry_fits kind depth (take (end - start) (drop (packed_at + start) bs))) (names_in (names_used depth) (take (end - start) (drop (packed_at + start) bs))) r
          → SizeIfFits (change_fits kind depth start end bs) (names_in (names_used depth) (drop (packed_at + start) bs)) r
      told None e g = e ∙ g
      told (Some n) e (fits, size, most) = (e ∙ fits, rw (entry_names fits) at size, most)

row-change : (ns bs : List ℕ) (i : ℕ) (r : KeyRead) → read_key (names_used (depth_at ns i)) (row_bytes ns bs i) ≡ some r
    → change_at ns bs i ≡ change (kind_of (kind_at ns i)) r.key r.rest
unfolding row_bytes key_at key_start value_at
row-change ns bs i r e =
    let n : ℕ = names_used (depth_at ns i) in
    let w : ℕ = end_at ns i - start_at ns i in
    let p : ℕ = packed_at + start_at ns i in
    let l : ℕ = length (packed r.key) in
    let k : names_in n (drop p bs) ≡ r.key = read_names n w (drop p bs) r e in
    let v : take (w - l) (drop (p + l) bs) ≡ r.rest =
    ap (take (w - l)) (sym (drop-drop l p bs)) ∙ sym (drop-take l w (drop p bs)) ∙ read-rest n (take w (drop p bs)) r e in
    ap
    (λ (x : Key). change (kind_of (kind_at ns i)) x (take (w - length (packed x)) (drop (p + length (packed x)) bs)))
    k
    ∙ ap (λ (x : List ℕ). change (kind_of (kind_at ns i)) r.key x) v

row_entry : (ns bs : List ℕ) (i : ℕ) → (is_whole (read_key (names_used (depth_at ns i)) (row_bytes ns bs i)) and is_change (change_at ns bs i))
    ≡ entry_fits (kind_at ns i) (depth_at ns i) (row_bytes ns bs i)
unfolding entry_fits is_whole ◌and◌
row_entry ns bs i = go (read_key (names_used (depth_at ns i)) (row_bytes ns bs i)) refl
  where
    go : (o : Option KeyRead) → read_key (names_used (depth_at ns i)) (row_bytes ns bs i) ≡ o
        → (is_whole o and is_change (change_at ns bs i)) ≡ (is_whole o and is_change (change_in (kind_at ns i) (depth_at ns i) (row_bytes ns bs i)))
    go none e = refl
    go (some r) e = ap is_change (row-change ns bs i r e ∙ sym (change-whole (kind_at ns i) (depth_at ns i) (row_bytes ns bs i) r e))

-- The row by its numbers.
module _ (ns bs : List ℕ) (i kind depth start end : ℕ) (a : kind ≡ kind_at ns i) (b : depth ≡ depth_at ns i) (c : start ≡ start_at ns i) (d : end ≡ end_at ns i) where
  row_test : change_fits kind depth start end bs ≡ row_fits ns bs i
  unfolding row_fits change_fits row_bytes
  row_test = rw (a, b, c, d, row_entry ns bs i)

  row-names : names_in (names_used depth) (drop (packed_at + start) bs) ≡ key_at ns bs i
  unfolding key_at key_start
  row-names = rw (b, c)

  pub row_by_numbers : (r : Found ℕ) → SizeIfFits (change_fits kind depth start end bs) (names_in (names_used depth) (drop (packed_at + start) bs)) r → SizeIfFits (row_fits ns bs i) (key_at ns bs i) r
  row_by_numbers r f = rw (row_test, row-names) at f
