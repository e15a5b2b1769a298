use Rattle.numbers.proofs.Laws.{Numbering}
use Rattle.numbers.proofs.number.Given as goal

abbrev pub invariant-loop-b : goal.invariant-loop-b
invariant-loop-b l = Numbering l.f l.n l.b-index
