-- The invariant: those passed are plain.
use Rattle.theory.specs.laws.Every.{Leads}
use Rattle.ranges.specs.Ranges.{tame}
use Rattle.ranges.proofs.plain.Given as goal

abbrev pub invariant-loop-i : goal.invariant-loop-i
invariant-loop-i l = Leads tame l.s l.i
