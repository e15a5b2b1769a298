-- No more was read than there is room.
use Rattle.std.proofs.Common.{◌≤◌, length}
use Rattle.printing.proofs.read_full.Given as goal

abbrev pub invariant-loop : goal.invariant-loop
invariant-loop l = l.done ≤ length l.to
