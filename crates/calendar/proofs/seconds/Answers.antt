-- No sum comes near what a number can hold.
use native.Mathlib.Omega.{arith}
use Rattle.calendar.specs.Calendar.{days, secs}
use Rattle.calendar.specs.laws.Years.{days_fit}
use Rattle.calendar.proofs.seconds.Goals as goal

pub overflow_add-days : goal.overflow_add-days
overflow_add-days c = omega (arith, days_fit c.requires)

pub overflow_add-days-2 : goal.overflow_add-days-2
overflow_add-days-2 c = omega (arith, days_fit c.requires)

pub overflow_mul-result : goal.overflow_mul-result
overflow_mul-result c = omega (arith, days_fit c.requires)

pub overflow_add-result : goal.overflow_add-result
overflow_add-result c = omega (arith, days_fit c.requires)

pub overflow_mul-result-2 : goal.overflow_mul-result-2
overflow_mul-result-2 c = omega (arith, days_fit c.requires)

pub overflow_add-result-2 : goal.overflow_add-result-2
overflow_add-result-2 c = omega (arith, days_fit c.requires)

pub overflow_mul-result-3 : goal.overflow_mul-result-3
overflow_mul-result-3 c = omega (arith, days_fit c.requires)

pub overflow_add-result-3 : goal.overflow_add-result-3
overflow_add-result-3 c = omega (arith, days_fit c.requires)

pub returns : goal.returns
unfolding secs days
returns c = cc
