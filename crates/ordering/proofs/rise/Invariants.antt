-- The invariant: the order rises up to the place i.
use Rattle.ordering.specs.laws.Order.{Rising}
use Rattle.ordering.proofs.rise.Given as goal

abbrev pub invariant-loop-i : goal.invariant-loop-i
invariant-loop-i l = Rising l.marked.parts.keys l.marked.parts.block.now l.marked.marks.now l.order l.i
