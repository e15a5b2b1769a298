use native.Mathlib.Omega.{arith}
use Rattle.pans.proofs.Laws.{digits_at, sum_turn, sum_end}
use Rattle.pans.proofs.luhn_sum.Goals as goal

pub overflow_sub-digit : goal.overflow_sub-digit
overflow_sub-digit c = (digits_at _ _ c.requires c.loop-i-test.true).0

pub addend-requires : goal.addend-requires
addend-requires c = omega (arith, (digits_at _ _ c.requires c.loop-i-test.true).1)

pub loop-i-preserved : goal.loop-i-preserved
loop-i-preserved c = rw c.last_digit-sum.ensures (sum_turn _ _ _ _ c.loop-i.invariant c.loop-i-test.true (rw c.from-d.ensures at c.addend.ensures.0))

pub returns : goal.returns
returns c = sum_end _ _ _ c.loop-i.invariant c.loop-i-test.false
