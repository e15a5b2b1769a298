use native.Mathlib.Omega.{arith}
use lib.ListN.{length-set}
use Rattle.writing.proofs.Laws.{copied_start, copied_turn, copied_end}
use Rattle.writing.proofs.copy.Goals as goal

pub loop-i-init : goal.loop-i-init
loop-i-init c = (omega arith, copied_start _ _)

pub loop-i-preserved : goal.loop-i-preserved
loop-i-preserved c = (simp length-set (omega arith), copied_turn _ _ _ c.loop-i.invariant.1 (omega arith) (omega arith))

pub returns : goal.returns
returns c = copied_end _ _ c.loop-i.i c.loop-i.invariant.1 (omega arith) (omega arith)
