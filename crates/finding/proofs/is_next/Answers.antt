use Rattle.finding.proofs.Laws.{next_same}
use Rattle.finding.proofs.is_next.Goals as goal

pub returns-then-same : goal.returns-then-same
returns-then-same c = λ e h. next_same _ _ _ _ _ _ c.key_at-there.ensures c.key_at-here.ensures _ c.same.ensures c.if-same.true e
