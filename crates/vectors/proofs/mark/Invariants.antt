-- The invariant: as far as the loop is, the line is marked.
use lib.ListN.{length}
use Rattle.vectors.proofs.Laws.{Marking}
use mathlib.Core.Path.{◌≡◌}
use Rattle.vectors.proofs.mark.Given as goal

abbrev pub invariant-loop-i : goal.invariant-loop-i
invariant-loop-i l = (length l.line ≡ length l.initial.line) × Marking l.initial.line l.line l.i
