-- The table holds exactly what `live` and `value_of` say, for every list of changes.
use mathlib.Core.Path.{◌≡◌, refl, sym, ◌∙◌}
use mathlib.Core.Bool.{Bool, true, false, not, ◌||◌, false≢true}
use mathlib.Core.List.{List, [], ◌∷◌, ◌++◌}
use mathlib.Core.Option.{Option, none, some}
use Prim.Native.Nat.{ℕ}
use native.Mathlib.Omega.{arith}
use Rattle.std.specs.declared.cmp.Ordering.{Ordering}
use Rattle.std.specs.declared.cmp.Ordering.TheVariants.{Less, Equal, Greater}
use Rattle.names.specs.Key.{Key, key_order, same_key, covers}
use Rattle.names.specs.Pick.{pick, ◌and◌}
use Rattle.names.proofs.Ordered.{key-order, same_key_eq, key_more, same_key_refl}
use Rattle.store.specs.Change.{Kind, make, write, end, Change, change, Value, is_make, is_end, makes, ends, gives, later, only_if, since_made, not_ended, live, value_of}
use Rattle.store.specs.Table.{Entity, entity, put_by, put, revalue, without, applied, table_from, table, lookup}
use Rattle.store.proofs.Lists.Appending.{by_last}
use Rattle.store.proofs.Tables.OneChange.{live_snoc, value_of_snoc, table_snoc}

-- Looking up after each kind of change.
pub lookup-put : (k : Key) (e : Entity) (es : List Entity) → lookup k (put e es) ≡ pick (same_key e.key k) (some e.value) (lookup k es)
unfolding lookup put put_by pick
lookup-put k e [] = refl
lookup-put k e (f ∷ fs) = go (lookup-put k e fs) (key_order e.key f.key) refl
  where
    one : (b : Bool) (x y z : Option Value) → pick b x z ≡ pick b x (pick b y z)
    one true x y z = refl
    one false x y z = refl

    apart : key_order e.key f.key ≡ Greater → (b c : Bool) → same_key f.key k ≡ b → same_key e.key k ≡ c
        → pick b (some f.value) (pick c (some e.value) (lookup k fs)) ≡ pick c (some e.value) (pick b (some f.value) (lookup k fs))
    apart m true true p q = absurd (false≢true (sym (key_more e.key f.key m) ∙ rw (same_key_eq f.key k p) q))
    apart m true false p q = refl
    apart m false true p q = refl
    apart m false false p q = refl

    go : lookup k (put e fs) ≡ pick (same_key e.key k) (some e.value) (lookup k fs) → (o : Ordering) → key_order e.key f.key ≡ o
        → lookup k (put_by o e f fs (put e fs)) ≡ pick (same_key e.key k) (some e.value) (pick (same_key f.key k) (some f.value) (lookup k fs))
    go ih Less l = refl
    go ih Equal s = rw (← key-order.equal e.key f.key s) (one (same_key e.key k) (some e.value) (some f.value) (lookup k fs))
    go ih Greater m = rw ih (apart m (same_key f.key k) (same_key e.key k) refl refl)

nothing_either : (b : Bool) → ◌≡◌ {A = Option Value} none (pick b none none)
unfolding pick
nothing_either true = refl
nothing_either false = refl

-- A value in place of one that is there.
unfoldable pub instead : Value → Option Value → Option Value
instead v none = none
instead v (some w) = some v

pub lookup-revalue : (k : Key) (e : Entity) (es : List Entity)
    → lookup k (revalue e es) ≡ pick (same_key e.key k) (instead e.value (lookup k es)) (lookup k es)
unfolding lookup revalue pick instead
lookup-revalue k e [] = nothing_either (same_key e.key k)
lookup-revalue k e (f ∷ fs) = go (lookup-revalue k e fs) (same_key e.key f.key) refl (same_key e.key k) refl (same_key f.key k) refl
  where
    go : lookup k (revalue e fs) ≡ pick (same_key e.key k) (instead e.value (lookup k fs)) (lookup k fs)
        → (a : Bool) → same_key e.key f.key ≡ a → (b : Bool) → same_key e.key k ≡ b → (c : Bool) → same_key f.key k ≡ c
        → pick (same_key (pick a e f).key k) (some (pick a e f).value) (lookup k (revalue e fs))
        ≡ pick b (instead e.value (pick c (some f.value) (lookup k fs))) (pick c (some f.value) (lookup k fs))
    go ih true p true q true r = rw q
    go ih true p true q false r = absurd (false≢true (sym r ∙ rw (← same_key_eq e.key f.key p) q))
    go ih true p false q true r = absurd (false≢true (sym q ∙ rw (same_key_eq e.key f.key p) r))
    go ih true p false q false r = rw (q, ih) (rw q)
    go ih false p true q true r = absurd (false≢true (sym p ∙ rw (same_key_eq e.key k q, same_key_eq f.key k r) (same_key_refl k)))
    go ih false p true q false r = rw (r, ih) (rw q)
    go ih false p false q true r = rw r
    go ih false p false q false r = rw (r, ih) (rw q)

pub lookup-without : (k j : Key) (es : List Entity) → lookup k (without j es) ≡ pick (covers j k) none (lookup k es)
unfolding lookup without pick
lookup-without k j [] = nothing_either (covers j k)
lookup-without k j (f ∷ fs) = go (lookup-without k j fs) (covers j f.key) refl (same_key f.key k) refl
  where
    go : lookup k (without j fs) ≡ pick (covers j k) none (lookup k fs) → (c : Bool) → covers j f.key ≡ c → (s : Bool) → same_key f.key k ≡ s
        → lookup k (pick c (without j fs) (f ∷ without j fs)) ≡ pick (covers j k) none (pick s (some f.value) (lookup k fs))
    go ih true p true q = rw (ih, ← same_key_eq f.key k q) (rw p)
    go ih true p false q = ih
    go ih false p true q = rw (q, ← same_key_eq f.key k q) (rw p)
    go ih false p false q = rw q ih

-- What was made has a value, null or not.
made_gives : (k : Key) (c : Change) → makes k c ≡ true → gives k c ≡ true
unfolding makes gives is_make is_end ◌and◌
made_gives k c e = go c.kind e
  where
    go : (d : Kind) → (is_make d and same_key c.key k) ≡ true → (not (is_end d) and same_key c.key k) ≡ true
    go make e = e
    go write e = absurd (false≢true e)
    go end e = absurd (false≢true e)

made_valued : (cs : List Change) (k : Key) (since : List Change) → since_made cs k ≡ some since → (v : Value) × (value_of cs k ≡ some v)
unfolding since_made value_of later only_if
made_valued [] k since e = let z : ◌≡◌ {A = ℕ} 0 1 = cc in absurd (omega arith)
made_valued (c ∷ cs) k since e = go (λ s. made_valued cs k s) (since_made cs k) refl (makes k c) refl e
  where
    own : (o : Option Value) → (v : Value) × (later (some c.value) o ≡ some v)
    own none = (c.value, refl)
    own (some w) = (w, refl)

    go : ((s : List Change) → since_made cs k ≡ some s → (v : Value) × (value_of cs k ≡ some v)) → (o : Option (List Change)) → since_made cs k ≡ o
        → (m : Bool) → makes k c ≡ m → later (only_if m cs) o ≡ some since
        → (v : Value) × (later (only_if (gives k c) c.value) (value_of cs k) ≡ some v)
    go ih none p true q e = rw (made_gives k c q) (own (value_of cs k))
    go ih none p false q e = let z : ◌≡◌ {A = ℕ} 0 1 = cc in absurd (omega arith)
    go ih (some s) p m q e = let w = ih s p in rw w.1 (w.0, refl)

pub live-valued : (cs : List Change) (k : Key) → live cs k ≡ true → (v : Value) × (value_of cs k ≡ some v)
unfolding live not_ended
live-valued cs k e = go (since_made cs k) refl e
  where
    go : (s : Option (List Change)) → since_made cs k ≡ s → not_ended k s ≡ true → (v : Value) × (value_of cs k ≡ some v)
    go none p e = absurd (false≢true e)
    go (some since) p e = made_valued cs k since p

-- A table says what the changes before it say of an entity: its value if it is live, else nothing.
abbrev pub Says : List Entity → List Change → Key → Type 0
Says es past k = lookup k es ≡ pick (live past k) (value_of past k) none

-- One change keeps it so.
says_by : (k : Key) (past : List Change) (d : Kind) (j : Key) (v : Value) (es : List Entity) → Says es past k
    → let c = change d j v in
    lookup k (applied d (entity j v) es) ≡ pick (makes k c || (not (ends k c) and live past k)) (later (value_of past k) (only_if (gives k c) v)) none
unfolding applied makes ends gives is_make is_end ◌and◌ later only_if pick instead
says_by k past make j v es h = rw (lookup-put k (entity j v) es) (go (same_key j k))
  where
    go : (s : Bool) → pick s (some v) (lookup k es) ≡ pick (s || live past k) (later (value_of past k) (only_if s v)) none
    go true = refl
    go false = h
says_by k past write j v es h = rw (lookup-revalue k (entity j v) es, h) (go (same_key j k) (live past k) refl)
  where
    go : (s l : Bool) → live past k ≡ l
        → pick s (instead v (pick l (value_of past k) none)) (pick l (value_of past k) none) ≡ pick l (later (value_of past k) (only_if s v)) none
    go true true e = rw (live-valued past k e).1
    go true false e = refl
    go false l e = refl
says_by k past end j v es h = rw (lookup-without k j es, h) (go (covers j k))
  where
    go : (t : Bool) → pick t none (pick (live past k) (value_of past k) none) ≡ pick (not t and live past k) (value_of past k) none
    go true = refl
    go false = refl

pub says-after : (k : Key) (past : List Change) (c : Change) (es : List Entity) → Says es past k
    → Says (applied c.kind (entity c.key c.value) es) (past ++ c ∷ []) k
says-after k past c es h = rw (live_snoc past c k, value_of_snoc past c k) (says_by k past c.kind c.key c.value es h)

pub table-says : (cs : List Change) (k : Key) → lookup k (table cs) ≡ pick (live cs k) (value_of cs k) none
unfolding table table_from lookup live not_ended since_made pick
table-says cs k = by_last (λ (past : List Change). Says (table past) past k) refl (λ past c h. rw (table_snoc past c) (says-after k past c (table past) h)) cs

-- What is not live is not there, and what is live is there with its value.
pub lookup_dead : (cs : List Change) (k : Key) → live cs k ≡ false → lookup k (table cs) ≡ none
unfolding pick
lookup_dead cs k e = rw (table-says cs k, e)

pub lookup-live : (cs : List Change) (k : Key) → live cs k ≡ true → (v : Value) × (lookup k (table cs) ≡ some v)
unfolding pick
lookup-live cs k e = let w = live-valued cs k e in (w.0, rw (table-says cs k, e, w.1))
