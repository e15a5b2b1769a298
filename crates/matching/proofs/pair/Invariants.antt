-- The invariant: the lines from the place i on are paired, and k copies wait.
use Rattle.pairing.specs.laws.Turns.{Pairs}
use Rattle.matching.specs.laws.Texts.{part_texts}
use Prim.Native.Nat.{◌≤◌}
use Rattle.matching.proofs.pair.Given as goal

abbrev pub invariant-loop-i : goal.invariant-loop-i
invariant-loop-i l = (l.k ≤ l.answers.count) × Pairs (part_texts l.lines.width l.lines) (part_texts l.lines.width l.answers) l.i l.k l.marks
