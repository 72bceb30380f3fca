-- Where a key stands in a table in key order, or belongs, and the three kinds of change as changes at that place.
use mathlib.Core.Path.{◌≡◌, refl, sym, ◌∙◌, ap, subst}
use mathlib.Core.Bool.{Bool, true, false, ◌||◌, false≢true}
use mathlib.Core.List.{List, [], ◌∷◌, ◌++◌, append-nil, append_assoc}
use Prim.Native.Nat.{ℕ, suc, ◌+◌, ◌≤◌, ◌<◌, zero-le, suc-le-suc}
use native.Mathlib.Numerals.{add-one}
use native.Mathlib.Omega.{arith}
use Rattle.std.specs.Prelude.{Result, Ok, Err, is_ok}
use lib.ListN.{length, get_or, take, drop, set, take-append-drop}
use lib.Seq.{split_at, set_split, length-take-le, drop-drop, append_snoc}
use Rattle.std.specs.declared.cmp.Ordering.{Ordering}
use Rattle.std.specs.declared.cmp.Ordering.TheVariants.{Less, Equal, Greater}
use Rattle.names.specs.Key.{Key, key_order, same_key, covers}
use Rattle.names.specs.Pick.{pick}
use Rattle.names.proofs.Ordered.{key-order, key-less, key-same}
use Rattle.store.specs.code.Index.{rank_by, rank, rank_behind, position_in, Stands, Belongs, covered_run, inserted, removed}
use Rattle.store.specs.Table.{Entity, put, revalue, without}
use Rattle.store.specs.code.Turn.{holds}
use Rattle.store.proofs.Tables.EveryEntity.{every_none, every_more}
use Rattle.store.proofs.Tables.Holds.{holds_none, holds-first, holds-append, holds-behind}
use Rattle.store.proofs.Tables.Keys.{less_turned, more_turned, covers_self}
use Rattle.store.proofs.Tables.ChangeAtPlace.{put-place, revalue-place, without-place, Covered, Uncovered, behind_uncovered, parted, ahead_upto, behind_from, held_here}
use Rattle.store.proofs.Tables.Sorted.{Ahead, Behind, behind_further, Ascending, ascending_more, ascending_back, ascending_ahead, ascending_behind}

-- A rank by the keys before and behind a place.
rank_ahead : (k : Key) (xs ys : List Entity) → Ahead k xs → rank k (xs ++ ys) ≡ length xs + rank k ys
unfolding rank rank_by
rank_ahead k [] ys a = let z : rank k ys ≡ 0 + rank k ys = omega arith in z
rank_ahead k (x ∷ xs) ys (every_more l a) = let i = rank_ahead k xs ys a in rw l (omega arith)

rank-stops : (k : Key) (e : Entity) (ys : List Entity) (o : Ordering) → key_order e.key k ≡ o → (o ≡ Less → ⊥) → rank k (e ∷ ys) ≡ 0
unfolding rank rank_by
rank-stops k e ys Less q n = absurd (n refl)
rank-stops k e ys Equal q n = rw q
rank-stops k e ys Greater q n = rw q

same-less : Equal ≡ Less → ⊥
same-less e = let z : ◌≡◌ {A = ℕ} 0 1 = cc in omega arith

more-less : Greater ≡ Less → ⊥
more-less e = let z : ◌≡◌ {A = ℕ} 0 1 = cc in omega arith

rank-behind : (k : Key) (ys : List Entity) → Behind k ys → rank k ys ≡ 0
unfolding rank
rank-behind k [] b = refl
rank-behind k (y ∷ ys) (every_more l b) = rank-stops k y ys Greater (less_turned k y.key l) more-less

rank_same : (k : Key) (xs : List Entity) (e : Entity) (ys : List Entity) → Ahead k xs → e.key ≡ k → rank k (xs ++ e ∷ ys) ≡ length xs
rank_same k xs e ys a q =
    let s : key_order e.key k ≡ Equal = rw q (key-order.alike k) in
    let r = rank-stops k e ys Equal s same-less in
    let t = rank_ahead k xs (e ∷ ys) a in
    omega arith

-- No more than the entities before the place.
rank_upto : (k : Key) (xs ys : List Entity) → Behind k ys → rank k (xs ++ ys) ≤ length xs
unfolding rank rank_by
rank_upto k [] ys b = let r = rank-behind k ys b in omega arith
rank_upto k (x ∷ xs) ys b = go (rank_upto k xs ys b) (key_order x.key k)
  where
    go : rank k (xs ++ ys) ≤ length xs → (o : Ordering) → rank_by o (rank k (xs ++ ys)) ≤ suc (length xs)
    go ih Less = suc-le-suc ih
    go ih Equal = zero-le
    go ih Greater = zero-le

pub rank-within : (k : Key) (es : List Entity) → rank k es ≤ length es
unfolding rank rank_by
rank-within k [] = zero-le
rank-within k (x ∷ xs) = go (rank-within k xs) (key_order x.key k)
  where
    go : rank k xs ≤ length xs → (o : Ordering) → rank_by o (rank k xs) ≤ suc (length xs)
    go ih Less = suc-le-suc ih
    go ih Equal = zero-le
    go ih Greater = zero-le

-- All before the rank come before the key, and the one at it does not.
rank-front : (k : Key) (es : List Entity) → Ahead k (take (rank k es) es)
unfolding rank rank_by
rank-front k [] = every_none
rank-front k (x ∷ xs) = go (rank-front k xs) (key_order x.key k) refl
  where
    go : Ahead k (take (rank k xs) xs) → (o : Ordering) → key_order x.key k ≡ o → Ahead k (take (rank_by o (rank k xs)) (x ∷ xs))
    go ih Less q = every_more q ih
    go ih Equal q = every_none
    go ih Greater q = every_none

-- With the key itself among them.
rank-held : (k : Key) (xs ys : List Entity) → holds k xs ≡ true → rank k (xs ++ ys) < length xs
unfolding rank rank_by
rank-held k [] ys h = absurd (false≢true (sym (holds_none k) ∙ h))
rank-held k (x ∷ xs) ys h = go (rank-held k xs ys) (key_order x.key k) refl (sym (holds-first k x xs) ∙ h)
  where
    go : (holds k xs ≡ true → rank k (xs ++ ys) < length xs) → (o : Ordering) → key_order x.key k ≡ o → (same_key x.key k || holds k xs) ≡ true
        → rank_by o (rank k (xs ++ ys)) < suc (length xs)
    go ih Less q t = suc-le-suc (ih (rw (key-less x.key k q) at t))
    go ih Equal q t = suc-le-suc zero-le
    go ih Greater q t = suc-le-suc zero-le

up_to-before : (k : Key) (xs ys : List Entity) → Behind k ys → rank_behind k (xs ++ ys) ≤ length xs
unfolding rank_behind pick
up_to-before k xs ys b = go (holds k (xs ++ ys)) refl
  where
    left : (x y : Bool) → y ≡ false → (x || y) ≡ true → x ≡ true
    left true y e t = refl
    left false y e t = absurd (false≢true (sym e ∙ t))

    go : (t : Bool) → holds k (xs ++ ys) ≡ t → rank k (xs ++ ys) + pick t 1 0 ≤ length xs
    go true h = let r = rank-held k xs ys (left (holds k xs) (holds k ys) (holds-behind k ys b) (sym (holds-append k xs ys) ∙ h)) in omega arith
    go false h = let r = rank_upto k xs ys b in omega arith

-- Behind a key that is not there, all from its rank on come after it.
rank-back : (k : Key) (es : List Entity) → Ascending es → holds k es ≡ false → Behind k (drop (rank k es) es)
unfolding rank rank_by
rank-back k [] a h = every_none
rank-back k (x ∷ xs) (ascending_more b a) h = go (rank-back k xs a) (key_order x.key k) refl (sym (holds-first k x xs) ∙ h)
  where
    go : (holds k xs ≡ false → Behind k (drop (rank k xs) xs)) → (o : Ordering) → key_order x.key k ≡ o → (same_key x.key k || holds k xs) ≡ false
        → Behind k (drop (rank_by o (rank k xs)) (x ∷ xs))
    go ih Less q t = ih (rw (key-less x.key k q) at t)
    go ih Equal q t = absurd (false≢true (sym t ∙ rw (key-same x.key k q)))
    go ih Greater q t = let l = more_turned x.key k q in every_more l (behind_further k x.key xs l b)

-- The run of a key, and what stands behind it.
run_covered : (k : Key) (es : List Entity) → Covered k (take (covered_run k es) es)
unfolding covered_run pick
run_covered k [] = every_none
run_covered k (f ∷ fs) = go (run_covered k fs) (covers k f.key) refl
  where
    go : Covered k (take (covered_run k fs) fs) → (t : Bool) → covers k f.key ≡ t → Covered k (take (pick t (suc (covered_run k fs)) 0) (f ∷ fs))
    go ih true e = every_more e ih
    go ih false e = every_none

run_uncovered : (k : Key) (es : List Entity) → Behind k es → Ascending es → Uncovered k (drop (covered_run k es) es)
unfolding covered_run pick
run_uncovered k [] b a = every_none
run_uncovered k (f ∷ fs) (every_more l b) (ascending_more c a) = go (run_uncovered k fs b a) (covers k f.key) refl
  where
    go : Uncovered k (drop (covered_run k fs) fs) → (t : Bool) → covers k f.key ≡ t → Uncovered k (drop (pick t (suc (covered_run k fs)) 0) (f ∷ fs))
    go ih true e = ih
    go ih false e = behind_uncovered k f fs l e c

-- What a search answers.
pub position-held : (k : Key) (es : List Entity) → is_ok (position_in k es) ≡ holds k es
unfolding position_in pick
position-held k es = go (holds k es)
  where
    go : (t : Bool) → is_ok (pick t (Ok (rank k es)) (Err (rank k es))) ≡ t
    go true = refl
    go false = refl

pub stands_found : (k : Key) (es : List Entity) (p : ℕ) → Stands k es p → Ok p ≡ position_in k es
unfolding position_in pick
stands_found k es p s = rw (s.held, s.place)

pub belongs_found : (k : Key) (es : List Entity) (p : ℕ) → Belongs k es p → Err p ≡ position_in k es
unfolding position_in pick
belongs_found k es p s = rw (s.missing, s.place)

module _ (k : Key) (es : List Entity) (f : Result ℕ ℕ) (e : f ≡ position_in k es) (p : ℕ) where
  pub found_stands : f ≡ Ok p → Stands k es p
  unfolding position_in pick
  found_stands q = go (holds k es) refl (sym e ∙ q)
    where
      go : (t : Bool) → holds k es ≡ t → pick t (Ok (rank k es)) (Err (rank k es)) ≡ Ok p → Stands k es p
      go true h r = record { held = h; place = cc }
      go false h r = let z : ◌≡◌ {A = ℕ} 0 1 = cc in absurd (omega arith)

  pub found_belongs : f ≡ Err p → Belongs k es p
  unfolding position_in pick
  found_belongs q = go (holds k es) refl (sym e ∙ q)
    where
      go : (t : Bool) → holds k es ≡ t → pick t (Ok (rank k es)) (Err (rank k es)) ≡ Err p → Belongs k es p
      go false h r = record { missing = h; place = cc }
      go true h r = let z : ◌≡◌ {A = ℕ} 0 1 = cc in absurd (omega arith)

-- Between a low and a high place that meet, there is no such key.
pub nothing_between : (k : Key) (es : List Entity) (lo hi : ℕ) → lo ≤ rank k es → rank_behind k es ≤ hi → hi ≤ lo → Belongs k es lo
unfolding rank_behind pick
nothing_between k es lo hi l h m = go (holds k es) refl h
  where
    go : (t : Bool) → holds k es ≡ t → rank k es + pick t 1 0 ≤ hi → Belongs k es lo
    go true e h = absurd (omega arith)
    go false e h = record { missing = e; place = omega arith }

up_to-held : (k : Key) (es : List Entity) → holds k es ≡ true → rank_behind k es ≡ rank k es + 1
unfolding rank_behind pick
up_to-held k es h = rw h

pub up_to-within : (k : Key) (es : List Entity) → rank_behind k es ≤ length es
up_to-within k es = rw append-nil at (up_to-before k es [] every_none)

module _ (k : Key) (es : List Entity) (a : Ascending es) (p : ℕ) (d : Entity) where
  -- One comparison, at a place.
  module _ (h : p < length es) where
    pub rank_past : key_order (get_or es p d).key k ≡ Less → p + 1 ≤ rank k es
    rank_past l =
        let t = rank_ahead k (take (p + 1) es) (drop (p + 1) es) (ahead_upto k es p d a h l) in
        let u : rank k es ≡ length (take (p + 1) es) + rank k (drop (p + 1) es) = rw take-append-drop at t in
        let v = length-take-le (p + 1) es (omega arith) in
        omega arith

    pub rank_here : key_order (get_or es p d).key k ≡ Equal → Stands k es p
    rank_here s =
        let q : (get_or es p d).key ≡ k = key-order.equal (get_or es p d).key k s in
        let b : Ahead k (take p es) = rw q at (ascending_ahead (take p es) (get_or es p d) (drop (suc p) es) (parted es p d a h)) in
        let t = rank_same k (take p es) (get_or es p d) (drop (suc p) es) b q in
        let u : rank k es ≡ length (take p es) = subst (λ (l : List Entity). rank k l ≡ length (take p es)) (sym (split_at es p d h)) t in
        let v = length-take-le p es (omega arith) in
        record { held = held_here k es p d a h s; place = omega arith }

    pub rank-before : key_order (get_or es p d).key k ≡ Greater → rank_behind k es ≤ p
    rank-before m =
        let t = up_to-before k (take p es) (drop p es) (behind_from k es p d a h (more_turned (get_or es p d).key k m)) in
        let u : rank_behind k es ≤ length (take p es) = rw take-append-drop at t in
        let v = length-take-le p es (omega arith) in
        omega arith

  -- What stands at a place,
  module _ (s : Stands k es p) where
    pub stands_in : p < length es
    stands_in = let q = s.place in let r = rw append-nil at (rank-held k es [] s.held) in omega arith

    stands_ahead : Ahead k (take p es)
    stands_ahead = rw s.place (rank-front k es)

    pub stands-key : (get_or es p d).key ≡ k
    stands-key = go (key_order (get_or es p d).key k) refl
      where
        go : (o : Ordering) → key_order (get_or es p d).key k ≡ o → (get_or es p d).key ≡ k
        go Less q = let r = rank_past stands_in q in let t = s.place in absurd (omega arith)
        go Equal q = key-order.equal (get_or es p d).key k q
        go Greater q = let r = rank-before stands_in q in let u = up_to-held k es s.held in let t = s.place in absurd (omega arith)

  -- and what belongs there.
  module _ (b : Belongs k es p) where
    pub belongs_in : p ≤ length es
    belongs_in = let q = b.place in let r = rank-within k es in omega arith

    pub belongs_ahead : Ahead k (take p es)
    belongs_ahead = rw b.place (rank-front k es)

    pub belongs_behind : Behind k (drop p es)
    belongs_behind = rw b.place (rank-back k es a b.missing)

-- The three kinds of change, at the place of their key.
pub put-at : (e : Entity) (es : List Entity) (p : ℕ) → Ascending es → Belongs e.key es p → put e es ≡ inserted es p e
unfolding inserted
put-at e es p a b =
    rw take-append-drop at (put-place e (take p es) (drop p es) (belongs_ahead e.key es a p e b) (belongs_behind e.key es a p e b))

pub revalue-at : (e : Entity) (es : List Entity) (p : ℕ) → Ascending es → Stands e.key es p → revalue e es ≡ set es p e
revalue-at e es p a s =
    let h = stands_in e.key es a p e s in
    let q = sym (stands-key e.key es a p e s) in
    let w = split_at es p e h in
    ap (revalue e) w ∙ revalue-place e (take p es) (get_or es p e) (drop (suc p) es) (subst Ascending w a) q ∙ sym (set_split es p e h)

pub without_at : (k : Key) (es : List Entity) (p q : ℕ) → Ascending es → Stands k es p → q ≡ p + 1 + covered_run k (drop (p + 1) es) → without k es ≡ removed es p q
unfolding removed
without_at k [] p q a s r = absurd (false≢true (sym (holds_none k) ∙ s.held))
without_at k (x ∷ xs) p q a s r =
    let es : List Entity = x ∷ xs in
    let h = stands_in k es a p x s in
    let key : (get_or es p x).key ≡ k = stands-key k es a p x s in
    let fs : List Entity = drop (suc p) es in
    let w : es ≡ take p es ++ get_or es p x ∷ fs = split_at es p x h in
    let b : Ascending (take p es ++ get_or es p x ∷ fs) = subst Ascending w a in
    let behind : Behind k fs = rw key at (ascending_behind (take p es) (get_or es p x) fs b) in
    let up : Ascending fs = ascending_back (take p es ++ get_or es p x ∷ []) fs (rw append_snoc b) in
    let covered : covers k (get_or es p x).key ≡ true = rw key (covers_self k) in
    let whole : take p es ++ (get_or es p x ∷ take (covered_run k fs) fs) ++ drop (covered_run k fs) fs ≡ es =
    append_assoc (take p es) (get_or es p x ∷ take (covered_run k fs) fs) (drop (covered_run k fs) fs) ∙ rw (take-append-drop (covered_run k fs) fs) (sym w) in
    let gone = without-place k (take p es) (get_or es p x ∷ take (covered_run k fs) fs) (drop (covered_run k fs) fs) (stands_ahead k es a p x s) (every_more covered (run_covered k fs)) (run_uncovered k fs behind up) in
    let e : suc p + covered_run k fs ≡ q = rw add-one at (sym r) in
    ap (without k) (sym whole) ∙ gone ∙ rw (drop-drop (covered_run k fs) (suc p) es, e)
