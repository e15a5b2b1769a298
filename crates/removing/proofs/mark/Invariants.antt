-- The invariant: the first i slots have their marks.
use lib.ListN.{length}
use Rattle.removing.specs.laws.Marking.{Marking}
use Rattle.removing.proofs.mark.Given as goal

abbrev pub invariant-loop-i : goal.invariant-loop-i
invariant-loop-i g l = Marking (g.T.Removal.removes l.removal) l.register (length l.initial.marks) l.i l.marks
