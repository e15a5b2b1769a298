-- The invariant: k of the first i lines count.
use Prim.Native.Nat.{◌≤◌}
use Rattle.theory.specs.laws.Among.{CountAmong}
use Rattle.holdings.specs.Room.{is_behind}
use Rattle.holdings.proofs.count_new.Given as goal

abbrev pub invariant-loop-i : goal.invariant-loop-i
invariant-loop-i l = (l.k ≤ l.i) × CountAmong (is_behind l.slots) l.placed.verdicts.now l.placed.found.now l.i l.k
