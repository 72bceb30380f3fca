-- Order, equality and beginnings of lists, once for bytes in a name and for names in a key.
use Rattle.std.specs.Prelude.{Bool, true, false, List, [], ◌∷◌, ℕ, ltb, eqb}
use Rattle.names.specs.Pick.{pick, ◌and◌}
use Rattle.std.specs.declared.cmp.Ordering.{Ordering}
use Rattle.std.specs.declared.cmp.Ordering.TheVariants.{Less, Equal, Greater}

-- What decides where the first comparison says Equal.
abbrev pub and_then : Ordering → Ordering → Ordering
and_then Less o = Less
and_then Equal o = o
and_then Greater o = Greater

-- The first is not after the second: before it, or the same.
abbrev pub not_after : Ordering → Bool
not_after Less = true
not_after Equal = true
not_after Greater = false

module _ {A : Type 0} where
  -- "compare names from the first; bytes decide, a proper prefix .. comes first": at both levels the first difference decides.
  unfoldable pub lex : (A → A → Ordering) → List A → List A → Ordering
  lex f [] [] = Equal
  lex f [] (y ∷ ys) = Less
  lex f (x ∷ xs) [] = Greater
  lex f (x ∷ xs) (y ∷ ys) = and_then (f x y) (lex f xs ys)

  -- Element by element alike, and of one length.
  unfoldable pub alike : (A → A → Bool) → List A → List A → Bool
  alike r [] [] = true
  alike r [] (y ∷ ys) = false
  alike r (x ∷ xs) [] = false
  alike r (x ∷ xs) (y ∷ ys) = r x y and alike r xs ys

  -- The second list begins with the first.
  unfoldable pub begins : (A → A → Bool) → List A → List A → Bool
  begins r [] ys = true
  begins r (x ∷ xs) [] = false
  begins r (x ∷ xs) (y ∷ ys) = r x y and begins r xs ys

unfoldable pub byte_order : ℕ → ℕ → Ordering
byte_order x y = pick (ltb x y) Less (pick (ltb y x) Greater Equal)

-- "bytes decide, a proper prefix (so also an absent one) comes first"
unfoldable pub bytes_order : List ℕ → List ℕ → Ordering
bytes_order = lex byte_order

unfoldable pub same : List ℕ → List ℕ → Bool
same = alike eqb
