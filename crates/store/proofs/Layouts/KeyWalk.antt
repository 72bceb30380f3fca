-- A walk over packed names: what stands behind one after another. Its invariant is that the whole key has behind it what the names that are left have
-- behind them.
use mathlib.Core.Path.{◌≡◌, refl, ◌∙◌}
use mathlib.Core.Bool.{Bool, true, false}
use mathlib.Core.List.{List, [], ◌∷◌}
use mathlib.Core.Option.{Option, none, some}
use Prim.Native.Nat.{ℕ, zero, suc, ◌+◌, ◌-◌, ◌≤◌, ◌<◌}
use native.Mathlib.Omega.{arith}
use lib.ListN.{length, take, drop}
use borrow.Author.Tests.{le-leb, lt-leb}
use Rattle.names.specs.Key.{Name, is_repeat, are_levels, is_key}
use Rattle.names.specs.code.HeldKey.{read_key}
use Rattle.names.specs.Name.{is_name}
use Rattle.names.specs.Pick.{pick, ◌and◌}
use Rattle.store.specs.code.Entry.{IsUsed, after_name, after_key}
use Rattle.store.proofs.Layouts.EntryKeys.{used_some, behind_next, behind_step, repeat_first, key_splits, levels_split, name-length, repeat_length}
use Rattle.store.proofs.Lists.FirstPlaces.{from_before}

-- One packed name, of n bytes.
pub name_none : (p : Name → Bool) (s : List ℕ) → length s ≡ 0 → after_name p s ≡ none
unfolding after_name
name_none p [] h = refl
name_none p (c ∷ s) h = absurd (omega arith)

module _ (p : Name → Bool) (s : List ℕ) where
  module _ (n : ℕ) (rest : List ℕ) (e : s ≡ n ∷ rest) where
    pub name-cut : length rest < n → after_name p s ≡ none
    unfolding after_name pick ◌and◌
    name-cut h = rw (e, lt-leb n (length rest) h)

    module _ (h : n ≤ length rest) (name : List ℕ) (f : name ≡ take n rest) (t : Bool) (test : t ≡ p name) where
      pub name_unfit : t ≡ false → after_name p s ≡ none
      unfolding after_name pick ◌and◌
      name_unfit g = rw (e, le-leb n (length rest) h, ← f, ← test, g)

      pub name-stands : t ≡ true → (behind : List ℕ) → behind ≡ drop n rest → after_name p s ≡ some behind
      unfolding after_name pick ◌and◌
      name-stands g behind b = rw (e, le-leb n (length rest) h, ← f, ← test, g, b)

pub ruleset name-behind = (name_none, name-cut, name_unfit, name-stands)

-- A repeat key is absent, or it is a name.
pub repeat_absent : (s t : List ℕ) → s ≡ 0 ∷ t → after_name is_repeat s ≡ some t
unfolding after_name is_repeat pick ◌and◌
repeat_absent s t e = rw (e, le-leb 0 (length t) (omega arith))

pub repeat_as_name : (s : List ℕ) (n : ℕ) (t : List ℕ) → s ≡ n ∷ t → (n ≡ 0 → ⊥) → after_name is_name s ≡ after_name is_repeat s
unfolding after_name is_repeat pick ◌and◌
repeat_as_name s zero t e n = absurd (n refl)
repeat_as_name s (suc l) [] e n = let z : 0 < suc l = omega arith in rw (e, lt-leb (suc l) 0 z)
repeat_as_name s (suc l) (c ∷ t) e n = rw e

-- The names of a key: a name, then levels of a name and a repeat key, or of a name alone.
key-next : (n : ℕ) → IsUsed n → (s : List ℕ) → after_key is_key (read_key n s) ≡ behind_next (after_name is_name s) (λ t. after_key are_levels (read_key (n - 1) t))
key-next n u s =
    from_before (λ n m. IsUsed n → after_key is_key (read_key n s) ≡ behind_next (after_name is_name s) (λ t. after_key are_levels (read_key m t)))
    (λ n u. behind_step is_key are_levels is_name n (key_splits n u) name-length s) n (used_some n u) u

oid-next : (n : ℕ) → 0 < n → (s : List ℕ)
    → after_key are_levels (read_key n s) ≡ behind_next (after_name is_name s) (λ t. after_key repeat_first (read_key (n - 1) t))
oid-next n h s =
    from_before (λ n m. after_key are_levels (read_key n s) ≡ behind_next (after_name is_name s) (λ t. after_key repeat_first (read_key m t)))
    (λ n. behind_step are_levels repeat_first is_name n (λ m k e. levels_split m k) name-length s) n h

repeat_next : (n : ℕ) → 0 < n → (s : List ℕ)
    → after_key repeat_first (read_key n s) ≡ behind_next (after_name is_repeat s) (λ t. after_key are_levels (read_key (n - 1) t))
unfolding repeat_first
repeat_next n h s =
    from_before (λ n m. after_key repeat_first (read_key n s) ≡ behind_next (after_name is_repeat s) (λ t. after_key are_levels (read_key m t)))
    (λ n. behind_step repeat_first are_levels is_repeat n (λ m k e. refl) repeat_length s) n h

names-next : (o : Option (List ℕ)) (f : List ℕ → Option (List ℕ)) (t : List ℕ) → o ≡ some t → behind_next o f ≡ f t
unfolding behind_next
names-next o f t e = rw e

names_stop : (o : Option (List ℕ)) (f : List ℕ → Option (List ℕ)) → o ≡ none → behind_next o f ≡ none
unfolding behind_next
names_stop o f e = rw e

names_last : (o : Option (List ℕ)) → behind_next o (λ t. after_key repeat_first (read_key 0 t)) ≡ o
unfolding behind_next after_key read_key repeat_first pick
names_last none = refl
names_last (some t) = refl

module _ (n : ℕ) (u : IsUsed n) (s : List ℕ) where
  pub key_unfit : after_name is_name s ≡ none → after_key is_key (read_key n s) ≡ none
  key_unfit e = key-next n u s ∙ names_stop _ _ e

  pub key_starts : (t : List ℕ) → after_name is_name s ≡ some t → after_key is_key (read_key n s) ≡ after_key are_levels (read_key (n - 1) t)
  key_starts t e = key-next n u s ∙ names-next _ _ _ e

-- In the loop, where so many names are left.
module _ (all : Option (List ℕ)) (left : ℕ) (s : List ℕ) (inv : all ≡ after_key are_levels (read_key left s)) where
  pub levels_end : left ≡ 0 → all ≡ some s
  unfolding after_key read_key are_levels pick
  levels_end z = inv ∙ rw z

  pub levels_last : left ≡ 1 → all ≡ after_name is_name s
  levels_last z = inv ∙ rw z (oid-next 1 (omega arith) s ∙ names_last _)

  module _ (h : 1 < left) where
    pub oid_unfit : after_name is_name s ≡ none → all ≡ none
    oid_unfit e = inv ∙ oid-next left (omega arith) s ∙ names_stop _ _ e

    module _ (t : List ℕ) (e : after_name is_name s ≡ some t) where
      both : all ≡ behind_next (after_name is_repeat t) (λ u. after_key are_levels (read_key (left - 1 - 1) u))
      both = inv ∙ oid-next left (omega arith) s ∙ names-next _ _ _ e ∙ repeat_next (left - 1) (omega arith) t

      pub repeat_unfit : after_name is_repeat t ≡ none → all ≡ none
      repeat_unfit f = both ∙ names_stop _ _ f

      pub level_stands : (u : List ℕ) → after_name is_repeat t ≡ some u → (next : ℕ) → next + 2 ≡ left → all ≡ after_key are_levels (read_key next u)
      level_stands u f next g =
          let w : left - 1 - 1 ≡ next = omega arith in
          both ∙ names-next _ _ _ f ∙ rw w
