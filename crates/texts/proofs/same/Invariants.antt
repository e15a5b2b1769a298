-- The invariant: what is left decides.
use mathlib.Core.Path.{◌≡◌}
use Rattle.theory.specs.Same.{eqs}
use Rattle.theory.specs.laws.Same.{eqs_to}
use Rattle.texts.proofs.same.Given as goal

abbrev pub invariant-loop-i : goal.invariant-loop-i
invariant-loop-i l = eqs l.a l.b ≡ eqs_to l.a l.b l.i
