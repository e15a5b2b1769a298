use native.Mathlib.Omega.{arith}
use Rattle.numbers.proofs.Laws.{number_start, number_turn, number_end, number_room}
use Rattle.numbers.proofs.number.Goals as goal

pub loop-b-init : goal.loop-b-init
loop-b-init c = number_start _

pub overflow_mul-n : goal.overflow_mul-n
overflow_mul-n c = omega (arith, number_room _ _ _ c.loop-b.invariant c.loop-b-test.true c.requires)

pub overflow_add-n : goal.overflow_add-n
overflow_add-n c = omega (arith, number_room _ _ _ c.loop-b.invariant c.loop-b-test.true c.requires)

pub loop-b-preserved : goal.loop-b-preserved
loop-b-preserved c = number_turn _ _ _ _ c.loop-b.invariant c.loop-b-test.true c.value.ensures

pub returns : goal.returns
returns c = number_end _ _ _ c.loop-b.invariant c.loop-b-test.false
