-- The entities of a table, made again one after another, stay within the limits.
use mathlib.Core.Path.{◌≡◌, sym, ◌∙◌}
use mathlib.Core.Bool.{true}
use mathlib.Core.List.{List, [], ◌∷◌, ◌++◌}
use Prim.Native.Nat.{◌+◌}
use native.Mathlib.Omega.{arith}
use borrow.Author.Tests.{le-leb}
use lib.ListN.{length, length-append}
use lib.Seq.{append_snoc}
use Rattle.names.proofs.Tests.{and_i}
use Rattle.store.specs.Change.{make, change, changes_bytes}
use Rattle.store.specs.Machine.{changes_most, bytes_most, live_most, within_limits}
use Rattle.store.specs.Table.{Entity, table}
use Rattle.snapshot.proofs.Facts.{TableFacts}
use Rattle.store.proofs.Tables.Size.{makes_of, makes_of_append, makes_of_length}
use Rattle.store.proofs.Images.WithLaws.{changes_bytes-joined}

module _ (full : List Entity) (facts : TableFacts full) where
  -- The first of them are within the limits.
  front-within : (xs ys : List Entity) → full ≡ xs ++ ys → within_limits (makes_of xs) ≡ true
  unfolding within_limits
  front-within xs ys e =
      let n : length full ≡ length xs + length ys = rw e (length-append xs ys) in
      let b : length (changes_bytes (makes_of full)) ≡ length (changes_bytes (makes_of xs)) + length (changes_bytes (makes_of ys)) =
      rw (e, makes_of_append xs ys) (changes_bytes-joined (makes_of xs) (makes_of ys)) in
      and_i _ _ (le-leb (length (makes_of xs)) changes_most (omega (arith, facts.few, makes_of_length xs)))
      (and_i _ _ (le-leb (length (changes_bytes (makes_of xs))) bytes_most (omega (arith, facts.small)))
      (le-leb (length (table (makes_of xs))) live_most (rw (facts.again xs ys e) (omega (arith, facts.few)))))

  pub one_more-within : (xs : List Entity) (e : Entity) (ys : List Entity) → full ≡ xs ++ e ∷ ys → within_limits (makes_of xs ++ change make e.key e.value ∷ []) ≡ true
  unfolding makes_of
  one_more-within xs e ys q = rw (makes_of_append xs (e ∷ [])) at (front-within (xs ++ e ∷ []) ys (q ∙ sym (append_snoc xs e ys)))
