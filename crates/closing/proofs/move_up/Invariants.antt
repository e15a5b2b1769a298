-- The invariant: of the first i those that stay are in front.
use Rattle.theory.specs.Parts.{chop}
use Rattle.theory.specs.Pick.{good, pick}
use Rattle.theory.specs.laws.CloseUp.{Closing}
use Rattle.sizes.specs.Sizes.{slot_length}
use Rattle.closing.proofs.move_up.Given as goal

abbrev pub invariant-loop-i : goal.invariant-loop-i
invariant-loop-i l = Closing slot_length (pick good l.marks (chop slot_length l.i l.initial.block)) l.initial.block l.block l.i l.k
