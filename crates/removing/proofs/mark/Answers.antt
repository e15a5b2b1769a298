use native.Mathlib.Omega.{arith}
use Rattle.removing.specs.laws.Marking.{marking_start, marking_turn, marking_end}
use Rattle.removing.proofs.Removing.{mark_is}
use Rattle.removing.proofs.mark.Goals as goal

pub loop-i-init : goal.loop-i-init
loop-i-init g c = marking_start _ _ _

pub loop-i-preserved : goal.loop-i-preserved
loop-i-preserved g c = marking_turn _ _ _ _ _ c.loop-i.invariant (omega arith) _ c.part.ensures _ (mark_is _ _ _ _ c.removes-goes.ensures c.from.ensures)

pub returns : goal.returns
returns g c = marking_end _ _ _ _ _ c.loop-i.invariant (omega (arith, c.loop-i.invariant.size))
