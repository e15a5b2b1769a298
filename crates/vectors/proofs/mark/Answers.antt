use lib.ListN.{length-set}
use Rattle.vectors.proofs.Laws.{marking_start, marking_turn, marking_end}
use mathlib.Core.Path.{refl}
use native.Mathlib.Omega.{arith}
use Rattle.vectors.proofs.mark.Goals as goal

pub loop-i-init : goal.loop-i-init
loop-i-init c = (refl, marking_start _)

pub loop-i-preserved : goal.loop-i-preserved
loop-i-preserved c = (simp length-set (omega arith), marking_turn _ _ _ c.loop-i.invariant.1 _ c.marked.ensures (omega arith) (omega arith))

pub returns : goal.returns
returns c = marking_end _ _ c.loop-i.i c.loop-i.invariant.1 (omega arith) (omega arith)
