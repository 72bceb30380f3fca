-- Two keys compared by the place where their bytes first differ. The second stands whole and its names are plain: the byte there tells where it lies.
use mathlib.Core.Path.{◌≡◌, refl, sym, ◌∙◌, ap}
use mathlib.Core.Bool.{Bool, true, false, false≢true}
use mathlib.Core.List.{List, [], ◌∷◌, ◌++◌, append_assoc, append-nil}
use Prim.Native.Nat.{ℕ, zero, suc, ◌+◌, ◌-◌, ◌*◌, ◌≤◌, ◌<◌}
use native.Mathlib.Nat.{not-suc-le-zero, le_of_suc-le-suc}
use native.Mathlib.Numerals.{add-one}
use native.Mathlib.Omega.{arith}
use lib.Dec.{leb, ltb, leb-suc-suc}
use lib.ListN.{length, get_or, take, drop, length-append, length-drop, take-append-drop}
use lib.Seq.{take-append_seam, drop-append_seam, take-append-add, drop-append-add, take-add, take-take, take_all, drop-drop, length-take-le, take-suc}
use borrow.Author.Tests.{leb-true, leb-false, lt-leb, ltb-true, lt-ltb, le-ltb}
use Rattle.std.specs.declared.cmp.Ordering.{Ordering}
use Rattle.std.specs.declared.cmp.Ordering.TheVariants.{Less, Equal, Greater}
use Rattle.names.specs.Bytes.{all}
use Rattle.names.specs.Class.{is_name_byte}
use Rattle.names.specs.Name.{name_most, is_name, is_name_of}
use Rattle.names.specs.Order.{and_then, lex, byte_order, bytes_order}
use Rattle.names.specs.Pick.{pick, ◌and◌}
use Rattle.names.specs.Key.{Key, Name, key_order, is_key, is_repeat, are_levels, names_in, packed}
use Rattle.names.specs.code.KeyParts.{first_name, past_name, past_names, four_at, Differing}
use Rattle.names.specs.code.KeyWhole.{is_plain_name, IsWhole, WholeKey, NamesTake}
use Rattle.std.specs.Ordering.{nat_cmp}
use Rattle.names.proofs.ClassLaws.{name_above}
use Rattle.names.proofs.Stretch.{cmp-byte}
use Rattle.names.proofs.Ordered.{name-order, byte-order}
use Rattle.names.proofs.Tests.{and_l, and_r, and_i, all_implied}
use Rattle.names.proofs.Walk.{drop_here, drop_past, drop-take}
use Rattle.names.proofs.KeyWalk.{names-first, names-length, rest-is}
use Rattle.names.proofs.KeyPacked.{packed-append, names-packed}
use Rattle.names.proofs.KeyAlike.{past_more, eight-same}

-- The names of a key are plain.
name-plain : (n : Name) → is_name n ≡ true → is_plain_name n ≡ true
unfolding is_name is_name_of is_plain_name
name-plain n e =
    let f = and_r (leb 1 (length n)) _ e in
    and_i _ _ (and_l _ _ f) (all_implied is_name_byte (ltb name_most) name_above n (and_r (leb (length n) name_most) _ f))

repeat_plain : (n : Name) → is_repeat n ≡ true → is_plain_name n ≡ true
unfolding is_repeat is_plain_name all ◌and◌
repeat_plain [] e = refl
repeat_plain (c ∷ n) e = name-plain (c ∷ n) e

levels_plain : (k : Key) → are_levels k ≡ true → all is_plain_name k ≡ true
unfolding are_levels all ◌and◌
levels_plain [] e = refl
levels_plain (n ∷ []) e = and_i _ _ (name-plain n e) refl
levels_plain (n ∷ r ∷ k) e =
    and_i _ _ (name-plain n (and_l _ _ e))
    (and_i _ _ (repeat_plain r (and_l _ _ (and_r (is_name n) _ e))) (levels_plain k (and_r (is_repeat r) _ (and_r (is_name n) _ e))))

key-plain : (k : Key) → is_key k ≡ true → all is_plain_name k ≡ true
unfolding is_key all
key-plain [] e = absurd (false≢true e)
key-plain (n ∷ k) e = and_i _ _ (name-plain n (and_l _ _ e)) (levels_plain k (and_l _ _ (and_r (is_name n) _ e)))

-- A key that stands packed at p, whatever follows, stands whole.
pub whole-key : (s : List ℕ) (p : ℕ) (k : Key) (t : List ℕ) → is_key k ≡ true → p ≤ length s → drop p s ≡ packed k ++ t → WholeKey s p (length k) (length (packed k))
whole-key s p k t e h f =
    let l : length (drop p s) ≡ length s - p = length-drop p s in
    let m : length (packed k ++ t) ≡ length (packed k) + length t = length-append (packed k) t in
    let n : length (drop p s) ≡ length (packed k ++ t) = ap length f in
    record {
      room = omega arith;
      whole = rw (f, names-packed k t) (take-append_seam (packed k) t);
      plain = rw (f, names-packed k t) (key-plain k e);
    }

-- The first name x stands alike in u, and s bytes behind it do.
record Peeled (x : Name) (P : List ℕ) (s : ℕ) (u : List ℕ) : Type 0 where
  pub rest : List ℕ
  pub split : u ≡ length x ∷ (x ++ rest)
  pub alike : take s rest ≡ take s P

peel : (x : Name) (P : List ℕ) (s : ℕ) (u : List ℕ) → take (suc (length x + s)) u ≡ length x ∷ take (length x + s) (x ++ P) → Peeled x P s u
peel x P s [] e = let z : 0 ≡ suc (length (take (length x + s) (x ++ P))) = ap length e in absurd (omega arith)
peel x P s (l ∷ w) e =
    let a : l ≡ length x = cc in
    let b : take (length x + s) w ≡ take (length x + s) (x ++ P) = cc in
    let c : take (length x + s) w ≡ x ++ take s P = b ∙ take-append-add x P s in
    let d : take (length x) w ≡ x = sym (take-take (length x) (length x + s) w (omega arith)) ∙ ap (take (length x)) c ∙ take-append_seam x (take s P) in
    let z : length x + s - length x ≡ s = omega arith in
    let f : take s (drop (length x) w) ≡ take s P =
    rw z at (sym (drop-take (length x) (length x + s) w) ∙ ap (drop (length x)) c ∙ drop-append_seam x (take s P)) in
    record { rest = drop (length x) w; split = rw a (ap (λ (y : List ℕ). length x ∷ y) (sym (take-append-drop (length x) w) ∙ ap (λ (y : List ℕ). y ++ drop (length x) w) d)); alike = f }

-- A name that both keys begin with decides nothing.
same_first : (x : Name) (w : List ℕ) (m : ℕ) (K : Key) → key_order (names_in (suc m) (length x ∷ (x ++ w))) (x ∷ K) ≡ key_order (names_in m w) K
unfolding key_order lex names_in
same_first x w m K = rw (take-append_seam x w, drop-append_seam x w, name-order.alike x)

split_first : (x : Name) (K : Key) (m : ℕ) (u w : List ℕ) → u ≡ length x ∷ (x ++ w) → key_order (names_in (suc m) u) (x ∷ K) ≡ key_order (names_in m w) K
split_first x K m u w e = ap (λ (y : List ℕ). key_order (names_in (suc m) y) (x ∷ K)) e ∙ same_first x w m K

count_suc : (m n : ℕ) → byte_order (suc m) (suc n) ≡ byte_order m n
unfolding byte_order
count_suc m n = rw (leb-suc-suc (suc m) n, leb-suc-suc (suc n) m)

-- All the names of the key that has fewer stand alike.
front-alike : (K : Key) (m t : ℕ) (u : List ℕ) → take t u ≡ take t (packed K) → length (packed (take m K)) ≤ t → byte_order m (length K) ≡ key_order (names_in m u) K
unfolding key_order lex names_in byte_order pick packed
front-alike [] zero t u e h = refl
front-alike [] (suc m) t u e h = rw (names-first m u, le-ltb (suc m) 0 (omega arith), lt-ltb 0 (suc m) (omega arith))
front-alike (x ∷ K) zero t u e h = rw (lt-ltb 0 (suc (length K)) (omega arith))
front-alike (x ∷ K) (suc m) t u e h =
    let a = length-append x (packed (take m K)) in
    let s : ℕ = t - suc (length x) in
    let z : t ≡ suc (length x + s) = omega arith in
    let v = peel x (packed K) s u (rw z at e) in
    count_suc m (length K) ∙ front-alike K m s v.rest v.alike (omega arith) ∙ sym (split_first x K m u v.rest v.split)

-- The place t lies in a name that both keys have: with those before it passed, s bytes behind its length byte's place.
record Stopped (K : Key) (u : List ℕ) (m t : ℕ) : Type 0 where
  pub name : Name
  pub deeper : Key
  pub later : List ℕ
  pub more : ℕ
  pub s : ℕ
  pub order : key_order (names_in m u) K ≡ key_order (names_in (suc more) later) (name ∷ deeper)
  pub near : s ≤ length name
  pub alike : take s later ≡ take s (length name ∷ (name ++ packed deeper))
  pub first : drop t u ≡ drop s later
  pub second : drop t (packed K) ≡ drop s (length name ∷ (name ++ packed deeper))
  pub plain : is_plain_name name ≡ true

stopped : (K : Key) (m t : ℕ) (u : List ℕ) → all is_plain_name K ≡ true → take t u ≡ take t (packed K) → t < length (packed (take m K)) → Stopped K u m t
unfolding packed all
stopped [] zero t u p e h = absurd (not-suc-le-zero h)
stopped [] (suc m) t u p e h = absurd (not-suc-le-zero h)
stopped (x ∷ K) zero t u p e h = absurd (not-suc-le-zero h)
stopped (x ∷ K) (suc m) t u p e h = go (leb t (length x)) refl (stopped K m)
  where
    past_first : (t s : ℕ) (y w : List ℕ) → t ≡ suc (length x + s) → y ≡ length x ∷ (x ++ w) → drop t y ≡ drop s w
    past_first t s y w z q = rw (z, q) (drop-append-add x w s)

    go : (b : Bool) → leb t (length x) ≡ b
        → ((t : ℕ) (u : List ℕ) → all is_plain_name K ≡ true → take t u ≡ take t (packed K) → t < length (packed (take m K)) → Stopped K u m t) → Stopped (x ∷ K) u (suc m) t
    go true f ih = record { name = x; deeper = K; later = u; more = m; s = t; order = refl; near = leb-true _ _ f; alike = e; first = refl; second = refl; plain = and_l _ _ p }
    go false f ih =
        let g : length x < t = leb-false _ _ f in
        let a = length-append x (packed (take m K)) in
        let s : ℕ = t - suc (length x) in
        let z : t ≡ suc (length x + s) = omega arith in
        let v = peel x (packed K) s u (rw z at e) in
        let r = ih s v.rest (and_r (is_plain_name x) _ p) v.alike (omega arith) in
        record {
          name = r.name;
          deeper = r.deeper;
          later = r.later;
          more = r.more;
          s = r.s;
          order = split_first x K m u v.rest v.split ∙ r.order;
          near = r.near;
          alike = r.alike;
          first = past_first t s u v.rest z v.split ∙ r.first;
          second = past_first t s (packed (x ∷ K)) (packed K) z refl ∙ r.second;
          plain = r.plain;
        }

-- A difference in the text of a name decides,
text_decides : (x : Name) (P : List ℕ) (s : ℕ) (w : List ℕ) (c d : ℕ) (v y : List ℕ) (o : Ordering) → s < length x → take s w ≡ take s (x ++ P) → drop s w ≡ c ∷ v
    → drop s (x ++ P) ≡ d ∷ y → byte_order c d ≡ o → ((z : Ordering) → and_then o z ≡ o) → bytes_order (take (length x) w) x ≡ o
unfolding bytes_order lex
text_decides [] P s w c d v y o h e f g k u = absurd (not-suc-le-zero h)
text_decides (b ∷ x) P zero w c d v y o h e f g k u = let q : b ≡ d = cc in rw (f, q, k) (u (lex byte_order (take (length x) v) x))
text_decides (b ∷ x) P (suc s) [] c d v y o h e f g k u = let z : 0 ≡ suc (length v) = ap length f in absurd (omega arith)
text_decides (b ∷ x) P (suc s) (a ∷ w) c d v y o h e f g k u =
    let q : a ≡ b = cc in
    let r : take s w ≡ take s (x ++ P) = cc in
    rw (q, byte-order.alike b) (text_decides x P s w c d v y o (le_of_suc-le-suc h) r f g k u)

-- and its byte is no length.
text_above : (x : Name) (P : List ℕ) (s d : ℕ) (y : List ℕ) → all (ltb name_most) x ≡ true → s < length x → drop s (x ++ P) ≡ d ∷ y → name_most < d
unfolding all
text_above [] P s d y e h f = absurd (not-suc-le-zero h)
text_above (b ∷ x) P zero d y e h f = let q : b ≡ d = cc in rw (← q) (ltb-true name_most b (and_l _ _ e))
text_above (b ∷ x) P (suc s) d y e h f = text_above x P s d y (and_r (ltb name_most b) _ e) (le_of_suc-le-suc h) f

past_packed : (k : Key) (t : List ℕ) → past_names (length k) (packed k ++ t) ≡ t
unfolding past_names past_name packed
past_packed [] t = refl
past_packed (n ∷ k) t =
    ap (λ (y : List ℕ). past_names (length k) (drop (length n) y)) (append_assoc n (packed k) t)
    ∙ ap (past_names (length k)) (drop-append_seam n (packed k ++ t))
    ∙ past_packed k t

-- The bytes of names that were walked past are those of the names.
pub past_size : (s : List ℕ) (p r : ℕ) (k : Key) (t : List ℕ) → p ≤ length s → drop p s ≡ packed k ++ t → NamesTake s p (length k) r → r ≡ length (packed k)
past_size s p r k t h e w =
    let a : length (drop p s) ≡ length s - p = length-drop p s in
    let b : length (packed k ++ t) ≡ length (packed k) + length t = length-append (packed k) t in
    let c : length (drop p s) ≡ length (packed k ++ t) = ap length e in
    let d : t ≡ drop (p + r) s = sym (past_packed k t) ∙ ap (past_names (length k)) (sym e) ∙ w.rest in
    let i : length t ≡ length (drop (p + r) s) = ap length d in
    let f : length (drop (p + r) s) ≡ length s - (p + r) = length-drop (p + r) s in
    let g = w.room in
    omega arith

-- The front of a whole key.
module _ (y : List ℕ) (n : ℕ) (w : IsWhole y n) where
  key-size : length (packed (names_in n y)) ≡ length y
  key-size = sym (ap length w.whole)

  pub front-all : (m : ℕ) → n ≤ m → length y ≡ length (packed (take m (names_in n y)))
  front-all m h =
      let l : length (names_in n y) ≡ n = names-length n y in
      sym (ap (λ (k : Key). length (packed k)) (take_all m (names_in n y) (omega arith)) ∙ key-size)

  pub front-part : (m r : ℕ) → m < n → NamesTake y 0 m r → r ≡ length (packed (take m (names_in n y)))
  front-part m r h u =
      let K : Key = names_in n y in
      let l : length (names_in n y) ≡ n = names-length n y in
      let f : length (take m K) ≡ m = length-take-le m K (omega arith) in
      let c : y ≡ packed (take m K) ++ packed (drop m K) = w.whole ∙ ap packed (sym (take-append-drop m K)) ∙ packed-append (take m K) (drop m K) in
      past_size y 0 r (take m K) (packed (drop m K)) (omega arith) c (rw f u)

  -- A place in the first name lies in the front of every key.
  pub ends-later : (m t : ℕ) → t < length y → 0 < m → t ≤ get_or y 0 0 → false ≡ leb (length (packed (take m (names_in n y)))) t
  unfolding packed
  ends-later m t g h e =
      let l = key-size in
      let z : get_or y 0 0 ≡ get_or (packed (names_in n y)) 0 0 = ap (λ (x : List ℕ). get_or x 0 0) w.whole in
      sym (lt-leb _ t (front-first (names_in n y) m t h (omega arith) (omega arith)))
    where
      front-first : (k : Key) (m t : ℕ) → 0 < m → t < length (packed k) → t ≤ get_or (packed k) 0 0 → t < length (packed (take m k))
      front-first [] m t h l g = absurd (not-suc-le-zero l)
      front-first (x ∷ k) zero t h l g = absurd (not-suc-le-zero h)
      front-first (x ∷ k) (suc m) t h l g = omega (arith, length-append x (packed (take m k)))

pub ruleset fronts = (front-all, front-part)

front-most : (k : Key) (m : ℕ) → length (packed (take m k)) ≤ length (packed k)
unfolding packed
front-most [] zero = omega arith
front-most [] (suc m) = omega arith
front-most (x ∷ k) zero = omega arith
front-most (x ∷ k) (suc m) = omega (arith, front-most k m, length-append x (packed (take m k)), length-append x (packed k))

-- A whole key by itself, as it is lent.
pub whole-lent : (b : List ℕ) (q n size : ℕ) → WholeKey b q n size → (IsWhole (take (q + size - q) (drop q b)) n) × (names_in n (take (q + size - q) (drop q b)) ≡ names_in n (drop q b))
whole-lent b q n size w =
    let K : Key = names_in n (drop q b) in
    let z : q + size - q ≡ size = omega arith in
    let l : length K ≡ n = names-length n (drop q b) in
    let f : take (q + size - q) (drop q b) ≡ packed K = rw z w.whole in
    let g : names_in n (take (q + size - q) (drop q b)) ≡ K = rw f (ap (λ (k : ℕ). names_in k (packed K)) (sym l) ∙ ap (names_in (length K)) (sym (append-nil (packed K))) ∙ names-packed K []) in
    (record { whole = f ∙ ap packed (sym g); plain = rw g w.plain }, g)

pub order_lent : (a : List ℕ) (p m : ℕ) (b : List ℕ) (q n size : ℕ) → WholeKey b q n size → (o : Ordering)
    → o ≡ key_order (names_in m (take (length a - p) (drop p a))) (names_in n (take (q + size - q) (drop q b))) → o ≡ key_order (names_in m (drop p a)) (names_in n (drop q b))
order_lent a p m b q n size w o e = e ∙ rw (rest-is a p, (whole-lent b q n size w).1)

-- The loop over the names that are walked past: what is left is what follows k of them, and the end of the text.
pub record Left (s : List ℕ) (p k : ℕ) (rest : List ℕ) : Type 0 where
  pub past : rest ≡ past_names k (drop p s)
  pub end : rest ≡ drop (length s - length rest) s
  pub room : length rest ≤ length s - p

left_end : (s : List ℕ) (i : ℕ) → drop i s ≡ drop (length s - length (drop i s)) s
left_end s i = go (leb i (length s)) refl
  where
    l : length (drop i s) ≡ length s - i
    l = length-drop i s

    go : (b : Bool) → leb i (length s) ≡ b → drop i s ≡ drop (length s - length (drop i s)) s
    go true e = let h = leb-true _ _ e in let m = l in let z : length s - length (drop i s) ≡ i = omega arith in rw z
    go false e = let h = leb-false _ _ e in let m = l in drop_past s i (omega arith) ∙ sym (drop_past s (length s - length (drop i s)) (omega arith))

past-is : (s : List ℕ) → (i : ℕ) × (past_name s ≡ drop i s)
unfolding past_name
past-is [] = (0, refl)
past-is (l ∷ s) = (suc l, refl)

pub left_all : (s : List ℕ) (p : ℕ) → p ≤ length s → Left s p 0 (take (length s - p) (drop p s))
unfolding past_names
left_all s p h = rw rest-is record { past = refl; end = left_end s p; room = let l = length-drop p s in omega arith }

pub left_fewer : (s : List ℕ) (p k : ℕ) (rest r : List ℕ) → Left s p k rest → r ≡ past_name rest → Left s p (k + 1) r
left_fewer s p k rest r a e =
    let i = past-is rest in
    let f : r ≡ drop (length s - length rest + i.0) s = e ∙ i.1 ∙ ap (drop i.0) a.end ∙ drop-drop i.0 (length s - length rest) s in
    let l = length-drop i.0 rest in
    let m : length r ≡ length (drop i.0 rest) = ap length (e ∙ i.1) in
    let room = a.room in
    record { past = rw add-one (e ∙ ap past_name a.past ∙ sym (past_more k (drop p s))); end = rw f (left_end s (length s - length rest + i.0)); room = omega arith }

pub left_size : (s : List ℕ) (p n k : ℕ) (rest : List ℕ) → p ≤ length s → Left s p k rest → k ≡ n → NamesTake s p n (length s - p - length rest)
left_size s p n k rest h a e =
    let room = a.room in
    let z : p + (length s - p - length rest) ≡ length s - length rest = omega arith in
    record { room = omega arith; rest = rw (← e, z) (sym a.past ∙ a.end) }

-- The loop over the bytes: up to t they stand alike.
pub alike-on-byte : (x y : List ℕ) (t : ℕ) → take t x ≡ take t y → t < length x → t < length y → get_or x t 0 ≡ get_or y t 0 → take (t + 1) x ≡ take (t + 1) y
alike-on-byte x y t e h k g = rw (add-one, take-suc x t 0 h, take-suc y t 0 k, e, g)

pub differing_none : (x y : List ℕ) (t : ℕ) → take t x ≡ take t y → length y ≤ t → Differing x y (length y)
differing_none x y t e h =
    record {
      few = omega arith;
      front = sym (take-take (length y) t x h) ∙ ap (take (length y)) e ∙ take-take (length y) t y h;
      differ = λ g. absurd (omega arith);
    }

-- By eights.
module _ (x y : List ℕ) (first : (i : ℕ) → get_or x i 0 < 256) (second : (i : ℕ) → get_or y i 0 < 256) (long : length y ≤ length x) where
  pub alike-on-eight : (t u v : ℕ) → take t x ≡ take t y → 8 ≤ length y - t → u ≡ four_at x t + 4294967296 * four_at x (t + 4) → v ≡ four_at y t + 4294967296 * four_at y (t + 4) → u ≡ v
      → take (t + 8) x ≡ take (t + 8) y
  alike-on-eight t u v e h f g z = take-add t 8 x ∙ rw (e, eight-same x y first second t t (omega arith) (omega arith) (sym f ∙ z ∙ g)) (sym (take-add t 8 y))

  pub alike-last : (t u v : ℕ) → take t x ≡ take t y → length y - t < 8 → 8 ≤ length y
      → u ≡ four_at x (length y - 8) + 4294967296 * four_at x (length y - 8 + 4) → v ≡ four_at y (length y - 8) + 4294967296 * four_at y (length y - 8 + 4) → u ≡ v
      → Differing x y (length y)
  alike-last t u v e few many f g z =
      let s : ℕ = length y - 8 in
      let h : s ≤ t = omega arith in
      let front : take s x ≡ take s y = sym (take-take s t x h) ∙ ap (take s) e ∙ take-take s t y h in
      differing_none x y (s + 8) (alike-on-eight s u v front (omega arith) f g z) (omega arith)

-- The name where two keys part decides their order,
abbrev Decides : Ordering → Type 0
Decides o = (z : Ordering) → and_then o z ≡ o

decides : (o : Ordering) → (o ≡ Equal → ⊥) → Decides o
decides Less n z = refl
decides Equal n z = absurd (n refl)
decides Greater n z = refl

module _ (K : Key) (u : List ℕ) (m t : ℕ) (r : Stopped K u m t) (o : Ordering) (d : Decides o) where
  decided : bytes_order (first_name r.later) r.name ≡ o → o ≡ key_order (names_in m u) K
  unfolding key_order lex
  decided e =
      sym (r.order
      ∙ ap (λ (k : Key). lex bytes_order k (r.name ∷ r.deeper)) (names-first r.more r.later)
      ∙ ap (λ (x : Ordering). and_then x (lex bytes_order (names_in r.more (past_name r.later)) r.deeper)) e
      ∙ d (lex bytes_order (names_in r.more (past_name r.later)) r.deeper))

  -- by its text,
  by_text : (b c : ℕ) (v y : List ℕ) → drop t u ≡ b ∷ v → drop t (packed K) ≡ c ∷ y → name_most < c → byte_order b c ≡ o → o ≡ key_order (names_in m u) K
  unfolding is_plain_name first_name
  by_text b c v y f g h k = decided (go r.s r.later r.near r.alike (sym r.first ∙ f) (sym r.second ∙ g))
    where
      go : (s : ℕ) (w : List ℕ) → s ≤ length r.name → take s w ≡ take s (length r.name ∷ (r.name ++ packed r.deeper)) → drop s w ≡ b ∷ v
          → drop s (length r.name ∷ (r.name ++ packed r.deeper)) ≡ c ∷ y → bytes_order (first_name w) r.name ≡ o
      go zero w n a f g =
          let q : length r.name ≡ c = cc in
          let l : length r.name ≤ name_most = leb-true _ _ (and_l _ _ r.plain) in
          absurd (omega arith)
      go (suc s) [] n a f g = let z : 0 ≡ suc (length v) = ap length f in absurd (omega arith)
      go (suc s) (l ∷ w) n a f g =
          let q : l ≡ length r.name = cc in
          let e : take s w ≡ take s (r.name ++ packed r.deeper) = cc in
          rw q (text_decides r.name (packed r.deeper) s w b c v y o n e f g k d)

  -- or, where it has another length, as a whole.
  by_name : (c : ℕ) (y : List ℕ) → drop t (packed K) ≡ c ∷ y → c ≤ name_most → o ≡ bytes_order (first_name (drop t u)) (first_name (drop t (packed K))) → o ≡ key_order (names_in m u) K
  unfolding is_plain_name first_name
  by_name c y g h k = decided (go r.s r.near r.first r.second)
    where
      go : (s : ℕ) → s ≤ length r.name → drop t u ≡ drop s r.later → drop t (packed K) ≡ drop s (length r.name ∷ (r.name ++ packed r.deeper))
          → bytes_order (first_name r.later) r.name ≡ o
      go zero n e f = sym (k ∙ rw (e, f, take-append_seam r.name (packed r.deeper)))
      go (suc s) n e f =
          let l : name_most < c = text_above r.name (packed r.deeper) s c y (and_r (leb (length r.name) name_most) _ r.plain) n (sym f ∙ g) in
          absurd (omega arith)

less-byte : (b c : ℕ) → b < c → byte_order b c ≡ Less
unfolding byte_order pick
less-byte b c h = rw (lt-ltb b c h)

-- The comparison: the first t bytes stand alike.
module _ (x : List ℕ) (m : ℕ) (y : List ℕ) (n t : ℕ) (w : IsWhole y n) (d : Differing x y t) where
  alike-there : take t x ≡ take t (packed (names_in n y))
  alike-there = d.front ∙ ap (take t) w.whole

  counts_there : length (packed (take m (names_in n y))) ≤ t → byte_order m n ≡ key_order (names_in m x) (names_in n y)
  counts_there h = ap (byte_order m) (sym (names-length n y)) ∙ front-alike (names_in n y) m t x alike-there h

  pub compared_counts : length y ≤ t → nat_cmp m n ≡ key_order (names_in m x) (names_in n y)
  compared_counts h =
      let l = key-size y n w in
      let f = front-most (names_in n y) m in
      cmp-byte m n ∙ counts_there (omega arith)

  module _ (inside : t < length y) (r : Bool) (f : r ≡ leb (length (packed (take m (names_in n y)))) t) where
    pub compared_ancestor : r ≡ true → Less ≡ key_order (names_in m x) (names_in n y)
    compared_ancestor g =
        let h : length (packed (take m (names_in n y))) ≤ t = leb-true _ _ (sym f ∙ g) in
        sym (less-byte m n (go (leb n m) refl h)) ∙ counts_there h
      where
        go : (b : Bool) → leb n m ≡ b → length (packed (take m (names_in n y))) ≤ t → m < n
        go true e h = let u = front-all y n w m (leb-true n m e) in absurd (omega arith)
        go false e h = leb-false n m e

  module _ (long : length y ≤ length x) (inside : t < length y) (r : Bool) (f : r ≡ leb (length (packed (take m (names_in n y)))) t) (h : r ≡ false) where
    here : Stopped (names_in n y) x m t
    here = stopped (names_in n y) m t x w.plain alike-there (leb-false _ _ (sym f ∙ h))

    second-there : drop t (packed (names_in n y)) ≡ drop t y
    second-there = ap (drop t) (sym w.whole)

    -- The byte there is a name's,
    pub compared_byte : name_most < get_or y t 0 → nat_cmp (get_or x t 0) (get_or y t 0) ≡ key_order (names_in m x) (names_in n y)
    compared_byte g =
        let o : Ordering = byte_order (get_or x t 0) (get_or y t 0) in
        cmp-byte (get_or x t 0) (get_or y t 0)
        ∙ by_text _ _ m t here o (decides o (λ e. d.differ inside (byte-order.equal _ _ e))) _ _ _ _ (drop_here x t (omega arith)) (second-there ∙ drop_here y t inside) g refl

    -- or a length, and so the names decide.
    pub compared_name : get_or y t 0 ≤ name_most → (o : Ordering) → o ≡ bytes_order (first_name (drop t x)) (first_name (drop t y)) → (o ≡ Equal → ⊥) → o ≡ key_order (names_in m x) (names_in n y)
    compared_name c o e g = by_name _ _ m t here o (decides o g) _ _ (second-there ∙ drop_here y t inside) c (e ∙ rw second-there)
