-- The attributes' names by their numbers.
use Rattle.std.specs.Prelude.{◌≡◌, MatchOption, List, [], ◌∷◌, map, ℕ, suc, ◌<◌}
use Rattle.std.specs.Prelude.{Option as Maybe}
use Rattle.names.specs.Order.{same}
use Rattle.names.specs.Pick.{pick}
use Rattle.reader.specs.Element.{Attribute, Element, element_at}

-- The names of an element's attributes.
unfoldable pub row_of : Element → List (List ℕ)
row_of e = map (λ (a : Attribute). a.name) e.attributes

-- The number of a name among others, counted from k on; 8 where it is not there: no row has more.
unfoldable pub number_in : ℕ → List (List ℕ) → List ℕ → ℕ
number_in k [] n = 8
number_in k (w ∷ ws) n = pick (same w n) k (number_in (suc k) ws n)

-- The number of an attribute in the row of an element.
unfoldable pub number_of : ℕ → List ℕ → ℕ
number_of e n = number_in 0 (row_of (element_at e)) n

-- The number k of an attribute as the code answers it: none where it is 8.
abbrev pub NumberOf : ℕ → Maybe ℕ → Type 0
NumberOf k r = MatchOption r (k ≡ 8) (λ j. (j ≡ k) × (j < 8))
