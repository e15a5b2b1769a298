-- The invariant: those taken from the place i on decide.
use lib.ListN.{length}
use Rattle.theory.specs.laws.Among.{Among}
use Rattle.slots.specs.Search.{holds_pan}
use Rattle.verdicts.proofs.is_named.Given as goal

abbrev pub invariant-loop-i : goal.invariant-loop-i
invariant-loop-i l = Among (holds_pan l.pan) l.lines.width (length l.verdicts) l.verdicts l.lines.block.now l.i
