-- The invariant: what is left decides.
use Prim.Native.Nat.{◌≤◌}
use lib.ListN.{length}
use Rattle.keys.specs.laws.Less.{LessFrom}
use Rattle.keys.proofs.is_less.Given as goal

abbrev pub invariant-loop-i : goal.invariant-loop-i
invariant-loop-i l = (l.i ≤ length l.s) × LessFrom l.s l.t l.i
