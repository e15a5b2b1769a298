-- The invariant: the verdicts of the first i lines stand in front, and k of those lines are left.
use Rattle.reading.specs.ReadBack.{reasons_of}
use Rattle.pairing.specs.laws.Telling.{Telling}
use Prim.Native.Nat.{◌≤◌}
use Rattle.reading.proofs.tell.Given as goal

abbrev pub invariant-loop-i : goal.invariant-loop-i
invariant-loop-i l = (l.k ≤ l.i) × Telling l.marks (reasons_of l.hgv l.hgc) l.initial.verdicts l.i l.k l.verdicts
