-- The order of the definition is that of the library's slices.
use Rattle.std.proofs.Common.{refl, arith}
use Rattle.std.specs.Ordering.{nat_cmp, is_lt}
use Rattle.std.proofs.lemmas.Cmp.{same_from_slice_cmp_tested}
use Rattle.std.proofs.lemmas.Bool.Decides.{nat_tests}
use Rattle.times.specs.Order.{earlier}
use Rattle.times.proofs.is_earlier.Goals as goal

pub returns : goal.returns
unfolding earlier
returns c = same_from_slice_cmp_tested nat_cmp is_lt earlier refl (λ _ _. refl) (λ _ _. refl) (λ x y xs ys o e. grind (arith, nat_tests)) c.args.a.now c.args.b.now _ c.lt.ensures
