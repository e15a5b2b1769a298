use Rattle.writer.proofs.Laws.{Lined}
use Rattle.writer.proofs.put_lines.Given as goal

abbrev pub invariant-loop-i : goal.invariant-loop-i
invariant-loop-i l = Lined l.sender l.accounts l.initial.out l.i l.out
