-- The invariant: the order rises up to the rank i.
use Rattle.finding.specs.laws.Sorted.{Rises}
use Rattle.finding.proofs.rises.Given as goal

abbrev pub invariant-loop-i : goal.invariant-loop-i
invariant-loop-i l = Rises l.parts.keys l.parts.block.now l.order l.parts.count l.i
