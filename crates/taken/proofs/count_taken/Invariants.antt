-- The invariant: so many of those passed are 0.
use Prim.Native.Nat.{◌≤◌}
use Rattle.theory.specs.laws.Tally.{Tallied}
use Rattle.theory.specs.Pick.{good}
use Rattle.taken.proofs.count_taken.Given as goal

abbrev pub invariant-loop-verdict : goal.invariant-loop-verdict
invariant-loop-verdict l = (l.taken ≤ l.verdict-index) × Tallied good l.verdicts l.verdict-index l.taken
