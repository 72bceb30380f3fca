use mathlib.Core.Path.{◌≡◌}
use Rattle.std.proofs.Common.{rules, bit_or}
use Rattle.std.specs.List.{fold}
use Rattle.std.proofs.lemmas.Fn.{fold_over, slice_gives, fronts}
use Rattle.store.proofs.Lists.Zeros.{none_set, next_joined}
use Rattle.store.proofs.layout.all_zero.Goals as goal

pub returns : goal.returns
returns g c number law =
    none_set number law.same c.args.s.now (law.zero _ c.default-2.ensures) c.eq.ensures
    (rw c.iter.ensures.rest at
    (fold_over fronts (λ y. y.now) _ (λ ys a. number a ≡ fold (λ n x. bit_or n (number x)) 0 ys) _
    (λ ys a x b f j k. (next_joined number ys a x.now b j (law.joined a x.now b (search rules)), search (rules, k)))
    _ _ _ _ (slice_gives c.iter.result) (law.zero _ c.default.ensures) c.fold.ensures.ran))
