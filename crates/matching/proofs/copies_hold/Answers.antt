use Rattle.matching.proofs.Laws.{marked, none_waits, some_wait}
use Rattle.matching.proofs.copies_hold.Goals as goal

pub returns-then-waiting-eq0 : goal.returns-then-waiting-eq0
returns-then-waiting-eq0 c =
    let b = c.lines-lines.ensures in
    let a = c.lines-answers.ensures in
    let p = c.pair-waiting.ensures in
    record {
      holding = none_waits _ _ c.lines-lines.result c.lines-answers.result b a _ _ (p.left, p.marked) c.if-waiting-eq0.true _ c.are_firsts.ensures;
      marked = marked _ _ c.lines-lines.result c.lines-answers.result b a _ _ (p.left, p.marked);
    }

pub returns-else-waiting-eq0 : goal.returns-else-waiting-eq0
returns-else-waiting-eq0 c =
    let b = c.lines-lines.ensures in
    let a = c.lines-answers.ensures in
    let p = c.pair-waiting.ensures in
    record {
      holding = some_wait _ _ c.lines-lines.result c.lines-answers.result b a _ _ (p.left, p.marked) c.if-waiting-eq0.false;
      marked = marked _ _ c.lines-lines.result c.lines-answers.result b a _ _ (p.left, p.marked);
    }
