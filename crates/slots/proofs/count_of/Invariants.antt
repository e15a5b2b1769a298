-- The invariant: k of the slots so far are the actor's.
use Rattle.std.specs.Prelude.{◌≡◌, ◌≤◌, take}
use Rattle.std.specs.List.{count_by}
use Rattle.slots.specs.Search.{of_actor}
use Rattle.slots.proofs.count_of.Given as goal

abbrev pub invariant-loop-r : goal.invariant-loop-r
invariant-loop-r l = (l.k ≤ l.r-index) × (l.k ≡ count_by (of_actor l.who) (take l.r-index l.r-items))
