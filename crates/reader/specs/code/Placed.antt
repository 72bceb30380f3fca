-- What the attributes of a tag that was taken passed. Contracts of inner functions cite it.
use Rattle.std.specs.Prelude.{◌≡◌, true, List, [], ℕ, ◌<◌}
use Rattle.std.proofs.Math.Option.{Option, none, some}
use Rattle.reader.specs.Tag.{Attr}
use Rattle.reader.specs.Element.{Form, element_at, body_fits, known, complete, formed}

-- By the row of its element.
pub record Placed (e : ℕ) (as' : List Attr) : Type 0 where
  pub deep : e < 12
  pub known' : known (element_at e).attributes as' ≡ true
  pub complete' : complete (element_at e).attributes as' ≡ true
  pub formed' : formed (element_at e).attributes as' ≡ true

-- The body of an element, by its form: only a typed item has one.
abbrev pub Bodied : Option Form → List ℕ → Type 0
Bodied none b = b ≡ []
Bodied (some f) b = body_fits f b ≡ true
