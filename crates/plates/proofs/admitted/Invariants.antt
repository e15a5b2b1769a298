-- The invariant: those passed are allowed.
use Rattle.theory.specs.laws.Every.{Leads}
use Rattle.plates.specs.Plate.{allowed}
use Rattle.plates.proofs.admitted.Given as goal

abbrev pub invariant-loop-i : goal.invariant-loop-i
invariant-loop-i l = Leads allowed l.f l.i
