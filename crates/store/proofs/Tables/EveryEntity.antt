-- What holds of every entity of a table, and how the three kinds of change keep it.
use mathlib.Core.Path.{◌≡◌, refl}
use mathlib.Core.Bool.{Bool, true, false}
use mathlib.Core.List.{List, [], ◌∷◌, ◌++◌}
use Prim.Native.Nat.{ℕ, zero, suc, ◌<◌}
use native.Mathlib.Nat.{not-suc-le-zero, le_of_suc-le-suc}
use lib.ListN.{length, get_or}
use Rattle.std.specs.declared.cmp.Ordering.{Ordering}
use Rattle.std.specs.declared.cmp.Ordering.TheVariants.{Less, Equal, Greater}
use Rattle.names.specs.Key.{Key, key_order, same_key, covers}
use Rattle.names.specs.Pick.{pick}
use Rattle.names.proofs.Ordered.{same_key_eq}
use Rattle.store.specs.Table.{Entity, put_by, put, revalue, without}

pub data Every (P : Entity → Type 0) : List Entity → Type 0 where
  every_none : Every P []
  every_more : {e : Entity} {es : List Entity} → P e → Every P es → Every P (e ∷ es)

module _ (P : Entity → Type 0) where
  pub every_append : (es fs : List Entity) → Every P es → Every P fs → Every P (es ++ fs)
  every_append [] fs a b = b
  every_append (e ∷ es) fs (every_more p a) b = every_more p (every_append es fs a b)

  pub every_front : (es fs : List Entity) → Every P (es ++ fs) → Every P es
  every_front [] fs a = every_none
  every_front (e ∷ es) fs (every_more p a) = every_more p (every_front es fs a)

  -- so of the one at a place
  pub every_at : (es : List Entity) (e : Entity) (fs : List Entity) → Every P (es ++ e ∷ fs) → P e
  every_at [] e fs (every_more p a) = p
  every_at (d ∷ es) e fs (every_more p a) = every_at es e fs a

  pub every_get_d : (es : List Entity) (i : ℕ) (d : Entity) → i < length es → Every P es → P (get_or es i d)
  every_get_d [] i d h a = absurd (not-suc-le-zero h)
  every_get_d (e ∷ es) zero d h (every_more p a) = p
  every_get_d (e ∷ es) (suc i) d h (every_more p a) = every_get_d es i d (le_of_suc-le-suc h) a

  pub every_put : (e : Entity) (es : List Entity) → P e → Every P es → Every P (put e es)
  unfolding put put_by
  every_put e [] p a = every_more p every_none
  every_put e (f ∷ fs) p (every_more q a) = go (every_put e fs p a) (key_order e.key f.key)
    where
      go : Every P (put e fs) → (o : Ordering) → Every P (put_by o e f fs (put e fs))
      go ih Less = every_more p (every_more q a)
      go ih Equal = every_more p a
      go ih Greater = every_more q ih

  pub every_revalue : (e : Entity) → ((f : Entity) → e.key ≡ f.key → P f → P e) → (es : List Entity) → Every P es → Every P (revalue e es)
  unfolding revalue pick
  every_revalue e keep [] a = every_none
  every_revalue e keep (f ∷ fs) (every_more q a) = every_more (go (same_key e.key f.key) refl) (every_revalue e keep fs a)
    where
      go : (b : Bool) → same_key e.key f.key ≡ b → P (pick b e f)
      go true s = keep f (same_key_eq e.key f.key s) q
      go false s = q

  pub every_without : (k : Key) (es : List Entity) → Every P es → Every P (without k es)
  unfolding without pick
  every_without k [] a = every_none
  every_without k (f ∷ fs) (every_more q a) = go (every_without k fs a) (covers k f.key)
    where
      go : Every P (without k fs) → (b : Bool) → Every P (pick b (without k fs) (f ∷ without k fs))
      go ih true = ih
      go ih false = every_more q ih

  pub every_then : (Q : Entity → Type 0) → ((e : Entity) → P e → Q e) → (es : List Entity) → Every P es → Every Q es
  every_then Q f [] a = every_none
  every_then Q f (e ∷ es) (every_more p a) = every_more (f e p) (every_then Q f es a)

  pub every_both : (Q : Entity → Type 0) (es : List Entity) → Every P es → Every Q es → Every (λ (e : Entity). P e × Q e) es
  every_both Q [] a b = every_none
  every_both Q (e ∷ es) (every_more p a) (every_more q b) = every_more (p, q) (every_both Q es a b)

-- What an end leaves, it does not cover.
pub without_uncovered : (k : Key) (es : List Entity) → Every (λ (e : Entity). covers k e.key ≡ false) (without k es)
unfolding without pick
without_uncovered k [] = every_none
without_uncovered k (f ∷ fs) = go (without_uncovered k fs) (covers k f.key) refl
  where
    go : Every (λ (e : Entity). covers k e.key ≡ false) (without k fs) → (b : Bool) → covers k f.key ≡ b
        → Every (λ (e : Entity). covers k e.key ≡ false) (pick b (without k fs) (f ∷ without k fs))
    go ih true c = ih
    go ih false c = every_more c ih
