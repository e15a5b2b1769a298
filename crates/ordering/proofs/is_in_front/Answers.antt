use Rattle.ordering.proofs.Laws.{front_start, front_on, front_hit}
use Rattle.ordering.proofs.is_in_front.Goals as goal

pub loop-i-init : goal.loop-i-init
loop-i-init c = front_start _ _ _ _ _

pub returns-then-has_key : goal.returns-then-has_key
returns-then-has_key c = front_hit _ _ _ _ _ _ _ c.loop-i-test.true c.requires _ c.has_key.ensures c.if-has_key.true

pub loop-i-preserved : goal.loop-i-preserved
loop-i-preserved c = front_on _ _ _ _ _ _ _ c.loop-i-test.true c.requires _ c.has_key.ensures c.loop-i.invariant c.if-has_key.false
