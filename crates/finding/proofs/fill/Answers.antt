use native.Mathlib.Omega.{arith}
use Rattle.finding.proofs.Laws.{filled_end}
use Rattle.finding.proofs.fill.Goals as goal

pub returns : goal.returns
returns g c = filled_end _ _ _ _ c.loop-i.invariant (omega (arith, c.loop-i.invariant.size))
