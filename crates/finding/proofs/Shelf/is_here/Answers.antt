use native.Mathlib.Omega.{arith}
use Rattle.finding.proofs.Laws.{found_same}
use Rattle.finding.proofs.Shelf.is_here.Goals as goal

pub returns-then-rank-self : goal.returns-then-rank-self
returns-then-rank-self c = λ e. (omega arith, found_same _ _ _ c.key_at.ensures _ c.same.ensures e)
