use native.Mathlib.Omega.{arith}
use Rattle.writer.proofs.Laws.{lined_start, lined_turn, lined_end}
use Rattle.writer.proofs.put_lines.Goals as goal

pub loop-i-init : goal.loop-i-init
loop-i-init c = lined_start _ _ _ (omega arith)

pub loop-i-preserved : goal.loop-i-preserved
loop-i-preserved c =
    lined_turn _ _ _ _ _ c.loop-i.invariant _ c.loop-i-test.true c.requires c.told-sender (c.told-accounts _ c.loop-i-test.true) _ c.put_line.ensures

pub returns : goal.returns
returns c = lined_end _ _ _ _ _ c.loop-i.invariant c.loop-i-test.false c.loop-i.auto.i-end
