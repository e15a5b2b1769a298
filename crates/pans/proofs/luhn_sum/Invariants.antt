use Rattle.pans.proofs.Laws.{Summing}
use Rattle.pans.proofs.luhn_sum.Given as goal

abbrev pub invariant-loop-i : goal.invariant-loop-i
invariant-loop-i l = Summing l.digits l.sum l.i
