-- The invariant: the places from i on are written, and what is left goes before them.
use lib.ListN.{length}
use Rattle.ranges.proofs.Laws.{Valuing}
use Rattle.ranges.proofs.put_value.Given as goal

abbrev pub invariant-loop-i : goal.invariant-loop-i
invariant-loop-i l = Valuing l.kind l.each l.first l.v (length l.initial.run) l.run l.i l.left
