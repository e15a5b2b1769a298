-- The invariant: so many years are over, and one at least is not.
use Prim.Native.Nat.{◌-◌, ◌≤◌}
use Rattle.calendar.specs.Calendar.{years_to}
use Rattle.calendar.proofs.years_over.Given as goal

abbrev pub invariant-loop-y : goal.invariant-loop-y
invariant-loop-y l = (years_to l.y ≤ l.days) × (l.y ≤ 9998)

abbrev pub decreases-loop-y : goal.decreases-loop-y
decreases-loop-y l = 9999 - l.y
