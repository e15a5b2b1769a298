use native.Mathlib.Omega.{arith}
use Rattle.calendar.specs.laws.Years.{years_are}
use Rattle.calendar.proofs.years_to.Goals as goal

pub returns : goal.returns
returns c = omega (arith, years_are c.args.n)
