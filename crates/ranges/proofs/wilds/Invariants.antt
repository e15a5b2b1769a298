-- The invariant: those passed are wild.
use Rattle.theory.specs.laws.Every.{Leads}
use Rattle.ranges.specs.Ranges.{wild}
use Rattle.ranges.proofs.wilds.Given as goal

abbrev pub invariant-loop-i : goal.invariant-loop-i
invariant-loop-i l = Leads wild l.s l.i
