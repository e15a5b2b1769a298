use native.Mathlib.Omega.{arith}
use Rattle.theory.specs.laws.Table.{length_cut}
use Rattle.sizes.specs.Sizes.{parts_most}
use Rattle.finding.proofs.Laws.{order_sorted}
use Rattle.finding.proofs.sort.Goals as goal

pub returns-then-rises : goal.returns-then-rises
returns-then-rises c = λ e. order_sorted _ _ _ _ _ _ (length_cut _ parts_most 0 c.requires.few) (omega arith) _ c.rises.ensures _ c.covers.ensures (rw c.if-rises.true e)
