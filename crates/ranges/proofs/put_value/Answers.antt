use Rattle.ranges.proofs.Laws.{valuing_turn, valuing_end}
use Rattle.ranges.proofs.put_value.Goals as goal

pub loop-i-preserved : goal.loop-i-preserved
loop-i-preserved c = valuing_turn _ _ _ _ _ _ _ _ c.loop-i.invariant c.loop-i-test.true

pub returns : goal.returns
returns c = valuing_end _ _ _ _ _ _ _ _ c.loop-i.invariant c.loop-i-test.false
