-- The invariant: as far as the loop is, they are the same.
use mathlib.Core.Path.{◌≡◌}
use lib.ListN.{length}
use Rattle.writing.proofs.Laws.{Copied}
use Rattle.writing.proofs.copy.Given as goal

abbrev pub invariant-loop-i : goal.invariant-loop-i
invariant-loop-i l = (length l.to ≡ length l.from) × Copied l.to l.from l.i
