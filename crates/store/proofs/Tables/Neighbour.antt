-- The parent by the neighbour: in a table in key order and closed under parents, the parent of a key is there exactly if the entity before the
-- key's place is the parent or stands below it.
use mathlib.Core.Path.{◌≡◌, refl, sym, ◌∙◌, ap}
use mathlib.Core.Bool.{Bool, true, false, ◌||◌, false≢true}
use mathlib.Core.List.{List, [], ◌∷◌, ◌++◌}
use Prim.Native.Nat.{ℕ, zero, suc, ◌+◌, ◌-◌, ◌≤◌, ◌<◌}
use native.Mathlib.Omega.{arith}
use borrow.Author.Tests.{leb-true, leb-false}
use lib.Dec.{leb}
use lib.ListN.{length, take, drop, take-append-drop, length-take}
use lib.Seq.{append_snoc, take-take, take-length}
use Rattle.std.specs.declared.cmp.Ordering.{Ordering}
use Rattle.std.specs.declared.cmp.Ordering.TheVariants.{Less, Equal, Greater}
use Rattle.names.specs.Key.{Key, key_order, same_key, covers, depth_of, names_used}
use Rattle.names.specs.Order.{not_after}
use Rattle.names.proofs.Ordered.{key-order, same_key_eq, together, covers-take}
use Rattle.names.proofs.KeyDepth.{used_grows, used_rises}
use Rattle.names.proofs.KeyForm.{deepest}
use Rattle.names.proofs.Tests.{each_way}
use Rattle.store.specs.Change.{parent_of}
use Rattle.store.specs.Table.{Entity}
use Rattle.store.proofs.Tables.Closed.{Formed, Closed, formed-key, parent-held}
use Rattle.store.proofs.Tables.Depths.{depth-names, key-depth, parent_shorter, parent-length, parent-depth}
use Rattle.store.proofs.Tables.EveryEntity.{Every, every_more, every_then}
use Rattle.store.proofs.Tables.Holds.{holds-first, holds-append, holds-behind, holds_at, every_held}
use Rattle.store.proofs.Tables.Keys.{covers-front, front-first}
use Rattle.store.proofs.Tables.Sorted.{Ascending, Ahead, Behind, ascending_ahead, ascending_behind, ascending_next}
use Rattle.store.specs.code.Turn.{holds}

-- No key of the list comes before k.
abbrev pub From : Key → List Entity → Type 0
From k es = Every (λ (f : Entity). not_after (key_order k f.key) ≡ true) es

not_after_lem : (o : Ordering) → o ≡ Less → not_after o ≡ true
not_after_lem o e = rw e

pub from_behind : (k : Key) (es : List Entity) → Behind k es → From k es
from_behind k es b = every_then _ _ (λ f l. not_after_lem _ l) es b

-- The first and those behind it.
pub from_first_lem : (e : Entity) (es : List Entity) → Behind e.key es → From e.key (e ∷ es)
from_first_lem e es b = let here : not_after (key_order e.key e.key) ≡ true = rw (key-order.alike e.key) in every_more here (from_behind e.key es b)

before_from : (j k : Key) (es : List Entity) → key_order j k ≡ Less → From k es → Behind j es
before_from j k es l b = every_then _ _ (λ f q. go f (key_order k f.key) refl q) es b
  where
    go : (f : Entity) (o : Ordering) → key_order k f.key ≡ o → not_after o ≡ true → key_order j f.key ≡ Less
    go f Less e q = key-order.trans j k f.key l e
    go f Equal e q = rw (← key-order.equal k f.key e) l
    go f Greater e q = absurd (false≢true q)

-- The front of a key is not found where no key comes before the key,
pub front-missing : (k : Key) (n : ℕ) (fs : List Entity) → n < length k → From k fs → holds (take n k) fs ≡ false
front-missing k n fs h b = holds-behind (take n k) fs (before_from (take n k) k fs (front-first n k h) b)

-- what is held, and not in the rest, is at most the entity before the rest;
upto_before : (p : Key) (es : List Entity) (d : Entity) (fs : List Entity) → Ahead d.key es → holds p fs ≡ false → holds p (es ++ d ∷ fs) ≡ true
    → not_after (key_order p d.key) ≡ true
upto_before p es d fs a n e = go (holds p es) refl (same_key d.key p) refl (rw (holds-append p es (d ∷ fs), holds-first p d fs, n) at e)
  where
    go : (x : Bool) → holds p es ≡ x → (y : Bool) → same_key d.key p ≡ y → (x || (y || false)) ≡ true → not_after (key_order p d.key) ≡ true
    go true q y r t = let w = every_held _ p es a q in rw (← w.1) (not_after_lem _ w.2)
    go false q true r t = rw (same_key_eq d.key p r, key-order.alike p)
    go false q false r t = absurd (false≢true t)

-- so where the table holds the front of a key, the entity before the key's place is that, or stands below it.
pub front-before : (es : List Entity) (d : Entity) (fs : List Entity) (k : Key) (n : ℕ) → Ascending (es ++ d ∷ fs) → key_order d.key k ≡ Less → From k fs
    → n < length k → holds (take n k) (es ++ d ∷ fs) ≡ true → covers (take n k) d.key ≡ true
front-before es d fs k n a l b h e =
    covers-front (take n k) d.key
    (together (take n k) (drop n k) d.key
    (upto_before (take n k) es d fs (ascending_ahead es d fs a) (front-missing k n fs h b) e)
    (rw (take-append-drop n k) (not_after_lem _ l)))

-- A table that holds a key holds its ancestors.
ancestor_above : (n : ℕ) (es : List Entity) (k : Key) (m : ℕ) → Closed es → 1 ≤ m → depth_of k ≡ n + m → holds k es ≡ true → holds (take (names_used m) k) es ≡ true
unfolding parent_of
ancestor_above zero es k m a l e h =
    let d : depth_of k ≡ m = omega arith in
    let q : take (names_used m) k ≡ k = rw (← d, depth-names k (omega arith)) (take-length k) in
    rw q h
ancestor_above (suc n) es k m a l e h =
    let deep : 1 < depth_of k = omega arith in
    let d : depth_of k - 1 ≡ n + m = omega arith in
    let b : names_used m ≤ names_used (depth_of k - 1) = used_rises m (depth_of k - 1) (omega arith) (let t = deepest k in omega arith) in
    rw (take-take (names_used m) (names_used (depth_of k - 1)) k b) at (ancestor_above n es (parent_of k) m a l (parent-depth k deep ∙ d) (parent-held es k a h deep))

pub ancestor_held : (es : List Entity) (k : Key) (m : ℕ) → Closed es → holds k es ≡ true → 1 ≤ m → m ≤ depth_of k → holds (take (names_used m) k) es ≡ true
ancestor_held es k m a h l b = ancestor_above (depth_of k - m) es k m a l (omega arith) h

-- A key at least as long as another's parent is at least as deep.
deep-enough : (j k : Key) → 1 ≤ depth_of j → 1 < depth_of k → length (parent_of k) ≤ length j → depth_of k - 1 ≤ depth_of j
deep-enough j k i deep h = go (leb (depth_of k - 1) (depth_of j)) refl
  where
    go : (t : Bool) → leb (depth_of k - 1) (depth_of j) ≡ t → depth_of k - 1 ≤ depth_of j
    go true e = leb-true (depth_of k - 1) (depth_of j) e
    go false e =
        let r = used_grows (depth_of j) (depth_of k - 1) (leb-false (depth_of k - 1) (depth_of j) e) (let t = deepest k in omega arith) in
        let n = depth-names j i in
        let m = parent-length k (omega arith) in
        absurd (omega arith)

covered_held : (es : List Entity) (j k : Key) → Closed es → holds j es ≡ true → 1 ≤ depth_of j → 1 < depth_of k
    → covers (parent_of k) j ≡ true → holds (parent_of k) es ≡ true
covered_held es j k c h i deep e =
    let t = covers-take (parent_of k) j e in
    let b : length (parent_of k) ≤ length j = let m = ap length t in omega (arith, length-take (length (parent_of k)) j) in
    let q : take (names_used (depth_of k - 1)) j ≡ parent_of k = rw (parent-length k (omega arith)) at t in
    rw q at (ancestor_held es j (depth_of k - 1) c h (omega arith) (deep-enough j k i deep b))

-- "A key's parent is live exactly if the entry before its place is the parent or below it."
pub parent_by_neighbour : (es : List Entity) (d : Entity) (fs : List Entity) (k : Key) → Ascending (es ++ d ∷ fs) → Closed (es ++ d ∷ fs) → Formed d
    → key_order d.key k ≡ Less → From k fs → 1 < depth_of k → holds (parent_of k) (es ++ d ∷ fs) ≡ covers (parent_of k) d.key
unfolding parent_of
parent_by_neighbour es d fs k a c f l b deep =
    each_way (holds (parent_of k) (es ++ d ∷ fs)) (covers (parent_of k) d.key)
    (λ e. front-before es d fs k (names_used (depth_of k - 1)) a l b (parent_shorter k (omega arith)) e)
    (λ e. covered_held (es ++ d ∷ fs) d.key k c (holds_at es d fs) (key-depth d.key (formed-key d f)) deep e)

-- and not at all where no entity stands before the place.
pub parent-missing : (k : Key) (fs : List Entity) → From k fs → 1 ≤ depth_of k → holds (parent_of k) fs ≡ false
unfolding parent_of
parent-missing k fs b deep = front-missing k (names_used (depth_of k - 1)) fs (parent_shorter k deep) b

-- Of two neighbours in the table, the first is the second's parent or stands below it.
pub parent-before : (es : List Entity) (d e : Entity) (fs : List Entity) → Ascending (es ++ d ∷ e ∷ fs) → Closed (es ++ d ∷ e ∷ fs) → 1 < depth_of e.key
    → covers (parent_of e.key) d.key ≡ true
unfolding parent_of
parent-before es d e fs a c deep =
    front-before es d (e ∷ fs) e.key (names_used (depth_of e.key - 1)) a (ascending_next es d e fs a)
    (from_first_lem e fs (ascending_behind (es ++ d ∷ []) e fs (rw append_snoc a)))
    (parent_shorter e.key (omega arith))
    (parent-held (es ++ d ∷ e ∷ fs) e.key c (rw append_snoc at (holds_at (es ++ d ∷ []) e fs)) deep)

-- The first is a subject.
pub first-subject : (e : Entity) (fs : List Entity) → Ascending (e ∷ fs) → Closed (e ∷ fs) → Formed e → depth_of e.key ≡ 1
first-subject e fs a c f = go (depth_of e.key) refl (key-depth e.key (formed-key e f))
  where
    go : (n : ℕ) → depth_of e.key ≡ n → 1 ≤ n → n ≡ 1
    go zero q l = absurd (omega arith)
    go (suc zero) q l = refl
    go (suc (suc n)) q l =
        absurd
        (false≢true
        (sym (parent-missing e.key (e ∷ fs) (from_first_lem e fs (ascending_behind [] e fs a)) (omega arith))
        ∙ parent-held (e ∷ fs) e.key c (holds_at [] e fs) (omega arith)))
