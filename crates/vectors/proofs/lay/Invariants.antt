-- The invariant: the texts of the letters from i on are left.
use lib.ListN.{length}
use Rattle.vectors.proofs.Laws.{Laying}
use mathlib.Core.Path.{◌≡◌}
use Rattle.vectors.proofs.lay.Given as goal

abbrev pub invariant-loop-letter : goal.invariant-loop-letter
invariant-loop-letter l = (length l.to ≡ length l.initial.to) × Laying l.width l.samples l.from l.letters l.initial.to l.letter-index l.at l.to
