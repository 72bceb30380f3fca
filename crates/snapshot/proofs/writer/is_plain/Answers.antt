use mathlib.Core.Logic.{◌⊎◌, inl, inr}
use mathlib.Core.Path.{◌≡◌, refl}
use mathlib.Core.Bool.{true, false}
use Prim.Native.Nat.{ℕ}
use Rattle.names.proofs.PickLaws.{pick_ne}
use Rattle.names.specs.Pick.{pick}
use Rattle.snapshot.specs.code.Writing.{is_plain_byte}
use Rattle.snapshot.proofs.writer.is_plain.Goals.{in-38, in_default}
use Rattle.snapshot.proofs.writer.is_plain.Goals as goal

module _ (c : ℕ) where
  one_of_four : (c ≡ 34) ⊎ ((c ≡ 38) ⊎ ((c ≡ 60) ⊎ (c ≡ 62))) → false ≡ is_plain_byte c
  unfolding is_plain_byte pick
  one_of_four (inl e) = rw e refl
  one_of_four (inr (inl e)) = rw e refl
  one_of_four (inr (inr (inl e))) = rw e refl
  one_of_four (inr (inr (inr e))) = rw e refl

  none_of_four : ((c ≡ 34) ⊎ ((c ≡ 38) ⊎ ((c ≡ 60) ⊎ (c ≡ 62))) → ⊥) → true ≡ is_plain_byte c
  unfolding is_plain_byte
  none_of_four n =
      let quote : c ≡ 34 → ⊥ = λ e. n (inl e) in
      let ampersand : c ≡ 38 → ⊥ = λ e. n (inr (inl e)) in
      let less : c ≡ 60 → ⊥ = λ e. n (inr (inr (inl e))) in
      let greater : c ≡ 62 → ⊥ = λ e. n (inr (inr (inr e))) in
      search pick_ne depth 8

pub returns : goal.returns
returns c = elim c.match-matches.branch [ in-38 w ↦ rw w.matches-is (one_of_four c.args.c w.in-38.is) | in_default w ↦ rw w.matches-is (search none_of_four) ]
