-- The invariant: the first i lines are answered.
use Rattle.hgc.proofs.Laws.{Answered}
use Rattle.hgc.proofs.put_answers.Given as goal

abbrev pub invariant-loop-i : goal.invariant-loop-i
invariant-loop-i l = Answered l.lines.width l.verdicts l.lines.block.now l.initial.hgc l.hgc l.i l.behind
