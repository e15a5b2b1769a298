-- The invariant: the parts in front of the place i are fresh.
use Rattle.theory.specs.Below.{below}
use Rattle.ordering.specs.laws.Again.{fresh}
use mathlib.Core.Path.{◌≡◌}
use mathlib.Core.Bool.{true}
use Rattle.ordering.proofs.search.Given as goal

abbrev pub invariant-loop-i : goal.invariant-loop-i
invariant-loop-i l = below (fresh l.marked.parts.keys l.marked.parts.block.now l.all l.marked.marks.now) l.i ≡ true
