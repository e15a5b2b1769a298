-- The invariant: the digits from i on are written, and what is left goes before them.
use lib.ListN.{length}
use Rattle.numbers.proofs.Laws.{Writing}
use Rattle.numbers.proofs.put_digits.Given as goal

abbrev pub invariant-loop-i : goal.invariant-loop-i
invariant-loop-i l = Writing l.v (length l.initial.to) l.to l.i l.left
