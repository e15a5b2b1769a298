-- The invariant: what is left decides.
use Rattle.texts.proofs.Laws.{Searching}
use Rattle.texts.proofs.listed.Given as goal

abbrev pub invariant-loop-i : goal.invariant-loop-i
invariant-loop-i l = Searching l.width l.table l.f l.i
