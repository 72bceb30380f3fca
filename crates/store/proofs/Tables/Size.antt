-- Lengths: how many entities a table has after a change, and that to make them anew takes no more changes and no more bytes than the changes so far.
use mathlib.Core.Path.{◌≡◌, refl, sym, ◌∙◌, ap}
use mathlib.Core.Bool.{Bool, true, false, ◌||◌, false≢true}
use mathlib.Core.List.{List, [], ◌∷◌, ◌++◌}
use Prim.Native.Nat.{ℕ, suc, ◌+◌, ◌≤◌, suc-le-suc}
use native.Mathlib.Omega.{arith}
use lib.ListN.{length, length-append}
use Rattle.std.specs.declared.cmp.Ordering.{Ordering}
use Rattle.std.specs.declared.cmp.Ordering.TheVariants.{Less, Equal, Greater}
use Rattle.names.specs.Key.{Key, key_order, same_key, covers}
use Rattle.names.specs.Pick.{pick}
use Rattle.names.proofs.Ordered.{key-order, same_key_eq, same_key_refl}
use Rattle.names.proofs.Tests.{or_r}
use Rattle.store.specs.Change.{Kind, make, write, end, Change, change, Value, change_bytes, changes_bytes}
use Rattle.store.specs.Table.{Entity, entity, put_by, put, revalue, without, applied, table_from, table}
use Rattle.store.proofs.Tables.Closed.{made_by}
use Rattle.store.proofs.Tables.Holds.{holds-first, holds-behind}
use Rattle.store.proofs.Tables.Sorted.{Ascending, ascending_none, ascending_more, after_ascending}
use Rattle.store.specs.code.Turn.{holds}

-- A make for each entity.
unfoldable pub makes_of : List Entity → List Change
makes_of [] = []
makes_of (e ∷ es) = made_by e ∷ makes_of es

pub makes_of_append : (es fs : List Entity) → makes_of (es ++ fs) ≡ makes_of es ++ makes_of fs
unfolding makes_of
makes_of_append [] fs = refl
makes_of_append (e ∷ es) fs = ap (λ (l : List Change). made_by e ∷ l) (makes_of_append es fs)

pub makes_of_length : (es : List Entity) → length (makes_of es) ≡ length es
unfolding makes_of
makes_of_length [] = refl
makes_of_length (e ∷ es) = ap suc (makes_of_length es)

-- The bytes of these makes.
unfoldable pub size : List Entity → ℕ
size es = length (changes_bytes (makes_of es))

size-more : (e : Entity) (es : List Entity) → size (e ∷ es) ≡ length (change_bytes (made_by e)) + size es
unfolding size makes_of changes_bytes
size-more e es = length-append (change_bytes (made_by e)) (changes_bytes (makes_of es))

-- A key that a table does not hold gets no value by a write.
pub revalue-missing : (e : Entity) (es : List Entity) → holds e.key es ≡ false → revalue e es ≡ es
unfolding revalue pick
revalue-missing e [] h = refl
revalue-missing e (f ∷ fs) h = go (revalue-missing e fs) (same_key e.key f.key) refl (same_key f.key e.key) refl (sym (holds-first e.key f fs) ∙ h)
  where
    go : (holds e.key fs ≡ false → revalue e fs ≡ fs) → (s : Bool) → same_key e.key f.key ≡ s → (t : Bool) → same_key f.key e.key ≡ t
        → (t || holds e.key fs) ≡ false → pick s e f ∷ revalue e fs ≡ f ∷ fs
    go ih s p true q h = absurd (false≢true (sym h))
    go ih true p false q h = absurd (false≢true (sym q ∙ rw (same_key_eq e.key f.key p) (same_key_refl f.key)))
    go ih false p false q h = ap (λ (l : List Entity). f ∷ l) (ih h)

-- How many there are after each kind of change.
pub put_one_more : (e : Entity) (es : List Entity) → holds e.key es ≡ false → length (put e es) ≡ suc (length es)
unfolding put put_by
put_one_more e [] h = refl
put_one_more e (f ∷ fs) h = go (put_one_more e fs) (key_order e.key f.key) refl (sym (holds-first e.key f fs) ∙ h)
  where
    go : (holds e.key fs ≡ false → length (put e fs) ≡ suc (length fs)) → (o : Ordering) → key_order e.key f.key ≡ o
        → (same_key f.key e.key || holds e.key fs) ≡ false → length (put_by o e f fs (put e fs)) ≡ suc (suc (length fs))
    go ih Less q h = refl
    go ih Equal q h = absurd (false≢true (sym h ∙ rw (key-order.equal e.key f.key q, same_key_refl f.key)))
    go ih Greater q h = ap suc (ih (or_r (same_key f.key e.key) (holds e.key fs) h))

pub revalue-length : (e : Entity) (es : List Entity) → length (revalue e es) ≡ length es
unfolding revalue
revalue-length e [] = refl
revalue-length e (f ∷ fs) = ap suc (revalue-length e fs)

pub without-length : (k : Key) (es : List Entity) → length (without k es) ≤ length es
unfolding without pick
without-length k [] = omega arith
without-length k (f ∷ fs) = go (without-length k fs) (covers k f.key)
  where
    go : length (without k fs) ≤ length fs → (b : Bool) → length (pick b (without k fs) (f ∷ without k fs)) ≤ suc (length fs)
    go ih true = omega arith
    go ih false = suc-le-suc ih

-- The bytes after each kind of change.
put-size : (e : Entity) (es : List Entity) → size (put e es) ≤ length (change_bytes (made_by e)) + size es
unfolding put put_by
put-size e [] = rw (size-more e []) (omega arith)
put-size e (f ∷ fs) = go (put-size e fs) (key_order e.key f.key)
  where
    go : size (put e fs) ≤ length (change_bytes (made_by e)) + size fs → (o : Ordering)
        → size (put_by o e f fs (put e fs)) ≤ length (change_bytes (made_by e)) + size (f ∷ fs)
    go ih Less = rw (size-more e (f ∷ fs)) (omega arith)
    go ih Equal = rw (size-more e fs, size-more f fs) (omega arith)
    go ih Greater = rw (size-more f (put e fs), size-more f fs) (omega arith)

revalue-size : (e : Entity) (es : List Entity) → Ascending es → size (revalue e es) ≤ length (change_bytes (made_by e)) + size es
unfolding revalue pick
revalue-size e [] a = omega arith
revalue-size e (f ∷ fs) (ascending_more b a) = go (revalue-size e fs a) (same_key e.key f.key) refl
  where
    go : size (revalue e fs) ≤ length (change_bytes (made_by e)) + size fs → (s : Bool) → same_key e.key f.key ≡ s
        → size (pick s e f ∷ revalue e fs) ≤ length (change_bytes (made_by e)) + size (f ∷ fs)
    go ih true q =
        let n : holds e.key fs ≡ false = holds-behind e.key fs (rw (same_key_eq e.key f.key q) b) in
        rw (revalue-missing e fs n, size-more e fs, size-more f fs) (omega arith)
    go ih false q = rw (size-more f (revalue e fs), size-more f fs) (omega arith)

without-size : (k : Key) (es : List Entity) → size (without k es) ≤ size es
unfolding without pick
without-size k [] = omega arith
without-size k (f ∷ fs) = go (without-size k fs) (covers k f.key)
  where
    go : size (without k fs) ≤ size fs → (b : Bool) → size (pick b (without k fs) (f ∷ without k fs)) ≤ size (f ∷ fs)
    go ih true = rw (size-more f fs) (omega arith)
    go ih false = rw (size-more f (without k fs), size-more f fs) (omega arith)

after-size : (d : Kind) (k : Key) (v : Value) (es : List Entity) → Ascending es → size (applied d (entity k v) es) ≤ length (change_bytes (change d k v)) + size es
unfolding applied change_bytes
after-size make k v es a = put-size (entity k v) es
after-size write k v es a = revalue-size (entity k v) es a
after-size end k v es a = let w = without-size k es in omega arith

pub table_from-size : (cs : List Change) (es : List Entity) → Ascending es → size (table_from es cs) ≤ size es + length (changes_bytes cs)
unfolding table_from changes_bytes
table_from-size [] es a = omega arith
table_from-size (c ∷ cs) es a =
    let e = entity c.key c.value in
    let s = after-size c.kind c.key c.value es a in
    let t = table_from-size cs (applied c.kind e es) (after_ascending c.kind e es a) in
    let l = length-append (change_bytes c) (changes_bytes cs) in
    omega arith

pub table-size : (cs : List Change) → length (changes_bytes (makes_of (table cs))) ≤ length (changes_bytes cs)
unfolding table size makes_of changes_bytes
table-size cs = let t = table_from-size cs [] ascending_none in omega arith
