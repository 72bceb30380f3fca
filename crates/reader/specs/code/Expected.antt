-- What is written as most files write it, which the code looks for first. Contracts of inner functions cite it.
use Rattle.std.specs.Prelude.{◌≡◌, Some, Result, Ok, Err, List, ℕ, ◌+◌, ◌-◌, ◌≤◌, ◌<◌, length, drop}
use Rattle.reader.specs.code.Places.{part, spaced, one_means, Inside}
use Rattle.reader.specs.code.AttributeNumbers.{number_of}
use Rattle.reader.specs.declared.tag.AttributePlaces.{AttributePlaces}
use Rattle.reader.specs.declared.attributes.Sought.{Sought}
use Rattle.reader.specs.declared.attributes.Stretch.{Stretch}

-- The attribute of that number in the element's row is the next.
pub record Expected (s : List ℕ) (at element j : ℕ) (a : AttributePlaces) : Type 0 where
  pub is : one_means s (Some a) ≡ spaced (drop at s)
  pub inside : Inside s at a
  pub number : j ≡ number_of element (part s a.name a.name_end)
  pub few : j < 8

-- It is not told what stands at a place: the same as at another behind it.
pub record Untelling (s : List ℕ) (at f : ℕ) : Type 0 where
  pub is : spaced (drop f s) ≡ spaced (drop at s)
  pub low : at ≤ f
  pub high : f ≤ length s

-- Its places, by those of its value.
abbrev pub places_of : ℕ → ℕ → ℕ → AttributePlaces
places_of at q e = record { name = at + 1; name_end = q - 2; value = q; value_end = e; next = e + 1 }

abbrev pub Expects : List ℕ → ℕ → ℕ → ℕ → Result Stretch ℕ → Type 0
Expects s at element j (Ok v) = Expected s at element j (places_of at v.start v.end)
Expects s at element j (Err f) = Untelling s at f

-- What was looked for at a place: it is the next attribute, or it is not told; then the same stands at another place.
pub record Seeks (s : List ℕ) (at element j : ℕ) (r : Sought) : Type 0 where
  pub absent : r.start ≡ 0 → (r.end ≡ 0) × (r.next ≡ at)
  pub met : (r.start ≡ 0 → ⊥) → Expected s at element j (places_of at r.start r.end) × (r.next ≡ r.end + 1)
  pub alike : spaced (drop r.same s) ≡ spaced (drop r.next s)
  pub high : r.next ≤ length s
