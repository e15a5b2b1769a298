-- The invariant: those marked 0 from the place i on decide.
use Rattle.theory.specs.laws.Among.{EachAmong}
use Rattle.receipts.specs.Receipt.{line_holds}
use Rattle.matching.proofs.each_holds.Given as goal

abbrev pub invariant-loop-i : goal.invariant-loop-i
invariant-loop-i l = EachAmong (line_holds l.hgv) l.lines.width l.lines.count l.marks l.lines.block.now l.i
