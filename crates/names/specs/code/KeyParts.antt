-- What the inner functions of the module key say of packed names. No promise of the crate cites it.
use Rattle.std.specs.Prelude.{◌≡◌, Option, Some, None, List, [], ◌∷◌, ℕ, zero, suc, ◌+◌, ◌*◌, ◌≤◌, ◌<◌, length, take, drop, get_or}
use Rattle.std.specs.declared.cmp.Ordering.{Ordering}
use Rattle.names.specs.declared.key.Passed.{Passed}
use Rattle.names.specs.Key.{Name, names_in}

-- The first packed name of a text, and what follows it.
unfoldable pub first_name : List ℕ → Name
first_name [] = []
first_name (l ∷ s) = take l s

unfoldable pub past_name : List ℕ → List ℕ
past_name [] = []
past_name (l ∷ s) = drop l s

-- What follows the first n packed names of a text.
unfoldable pub past_names : ℕ → List ℕ → List ℕ
past_names zero s = s
past_names (suc n) s = past_names n (past_name s)

-- Four bytes of a text as one number.
abbrev pub four_at : List ℕ → ℕ → ℕ
four_at s p = get_or s p 0 + 256 * (get_or s (p + 1) 0 + 256 * (get_or s (p + 2) 0 + 256 * get_or s (p + 3) 0))

-- From p in s and from q in t the next n bytes stand alike.
pub record AlikeFor (s : List ℕ) (p : ℕ) (t : List ℕ) (q n : ℕ) : Type 0 where
  pub first : p + n ≤ length s
  pub second : q + n ≤ length t
  pub alike : take n (drop p s) ≡ take n (drop q t)

-- Of y's bytes the first r stand alike in x, and no more.
pub record Differing (x y : List ℕ) (r : ℕ) : Type 0 where
  pub few : r ≤ length y
  pub front : take r x ≡ take r y
  pub differ : r < length y → get_or x r 0 ≡ get_or y r 0 → ⊥

-- What is told of an order, where anything is.
abbrev pub OrderTold : Option Ordering → Ordering → Type 0
OrderTold None o = Unit {0}
OrderTold (Some x) o = x ≡ o

-- From p in s and from q in t the next names stand alike: r says how many, at most `most`, and the bytes that they take.
pub record PassedIn (s : List ℕ) (p : ℕ) (t : List ℕ) (q most : ℕ) (r : Passed) : Type 0 where
  pub few : r.count ≤ most
  pub first : p + r.size ≤ length s
  pub second : q + r.size ≤ length t
  pub names : names_in r.count (drop p s) ≡ names_in r.count (drop q t)
  pub rest : past_names r.count (drop p s) ≡ drop (p + r.size) s
  pub other : past_names r.count (drop q t) ≡ drop (q + r.size) t
