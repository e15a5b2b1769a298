-- The invariant: the parts in front of the place a stand at their ranks.
use mathlib.Core.Path.{◌≡◌}
use mathlib.Core.Bool.{true}
use Rattle.theory.specs.Below.{below}
use Rattle.ordering.specs.Ranks.{ranked}
use lib.ListN.{length}
use Rattle.ordering.proofs.covers.Given as goal

abbrev pub invariant-loop-a : goal.invariant-loop-a
invariant-loop-a l = below (ranked l.all l.marks l.order l.ranks (length l.order)) l.a ≡ true
