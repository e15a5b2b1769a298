-- The invariant: what is left decides.
use Rattle.theory.specs.laws.Walk.{EachFrom}
use Rattle.frames.specs.Frames.{framed}
use Rattle.frames.proofs.each_framed.Given as goal

abbrev pub invariant-loop-i : goal.invariant-loop-i
invariant-loop-i l = EachFrom (framed l.lines.width) l.lines.width l.lines.count l.lines.block.now l.i
