use Rattle.imports.specs.Import.{judged}
use Rattle.indexed.proofs.Laws.{judged_sought}
use Rattle.indexed.proofs.import_lines.Goals as goal

pub import_judged-requires : goal.import_judged-requires
unfolding judged
import_judged-requires c =
    let (verdicts, found) = c.judge.ensures in
    record { clear = c.requires.clear; verdict = verdicts; sought = judged_sought _ _ _ _ _ _ verdicts found }
