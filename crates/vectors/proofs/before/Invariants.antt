-- The invariant: those passed are others.
use Rattle.theory.specs.laws.Every.{Leads}
use Rattle.vectors.specs.Vectors.{other}
use Rattle.vectors.proofs.before.Given as goal

abbrev pub invariant-loop-i : goal.invariant-loop-i
invariant-loop-i l = Leads (other l.end) l.s l.i
