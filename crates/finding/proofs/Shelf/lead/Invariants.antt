-- The invariant: `found` tells the first of the parts ahead of the rank.
use Rattle.finding.specs.laws.Sorted.{Led}
use Rattle.finding.proofs.Shelf.lead.Given as goal

abbrev pub invariant-loop-rank : goal.invariant-loop-rank
invariant-loop-rank l = Led l.self.parts.keys l.self.parts.count l.self.parts.block.now l.self.order.now l.rank l.found
