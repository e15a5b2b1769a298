use native.Mathlib.Omega.{arith}
use Rattle.finding.proofs.Laws.{place_unasked, place_asked}
use Rattle.finding.proofs.place_for.Goals as goal

pub returns-then-lines-i-ne0 : goal.returns-then-lines-i-ne0
returns-then-lines-i-ne0 g c = rw c.parts.ensures (place_unasked _ _ _ _ _ _ _ c.if-lines-i-ne0.true, omega arith)

pub returns : goal.returns
returns g c = (place_asked _ _ _ _ _ _ _ c.if-lines-i-ne0.false _ c.key.ensures _ c.find.ensures.0, c.find.ensures.1)
