use Rattle.numbers.proofs.Laws.{writing_turn, writing_end}
use Rattle.numbers.proofs.put_digits.Goals as goal

pub loop-i-preserved : goal.loop-i-preserved
loop-i-preserved c = writing_turn _ _ _ _ _ c.loop-i.invariant c.loop-i-test.true

pub returns : goal.returns
returns c = writing_end _ _ _ _ _ c.loop-i.invariant c.loop-i-test.false
