-- The invariant: so many months are over, and one at least is not.
use Prim.Native.Nat.{◌-◌, ◌≤◌}
use Rattle.calendar.specs.Calendar.{months_to}
use Rattle.calendar.proofs.months_over.Given as goal

abbrev pub invariant-loop-m : goal.invariant-loop-m
invariant-loop-m l = (months_to l.y l.m ≤ l.days) × (l.m ≤ 11)

abbrev pub decreases-loop-m : goal.decreases-loop-m
decreases-loop-m l = 12 - l.m
