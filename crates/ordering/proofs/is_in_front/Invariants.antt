-- The invariant: none of the parts in front of the place i is one.
use Rattle.ordering.specs.laws.Again.{in_front}
use mathlib.Core.Path.{◌≡◌}
use mathlib.Core.Bool.{false}
use Rattle.ordering.proofs.is_in_front.Given as goal

abbrev pub invariant-loop-i : goal.invariant-loop-i
invariant-loop-i l = in_front l.marked.parts.keys l.marked.parts.block.now l.all l.marked.marks.now l.i l.t ≡ false
