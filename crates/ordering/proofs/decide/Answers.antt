use mathlib.Core.Path.{sym}
use native.Mathlib.Omega.{arith}
use lib.Seq.{length-take-le}
use Rattle.sorting.specs.laws.Counts.{counts_few}
use Rattle.ordering.proofs.decide.Goals as goal

pub slice_bounds-order-end : goal.slice_bounds-order-end
slice_bounds-order-end c = let f = counts_few _ _ _ _ c.sort-m.ensures c.if-marked-gt-PARTS_MOST.false in omega arith

pub slice_bounds-test-end : goal.slice_bounds-test-end
slice_bounds-test-end c = let f = counts_few _ _ _ _ c.sort-m.ensures c.if-marked-gt-PARTS_MOST.false in sym (length-take-le _ _ (omega arith))
