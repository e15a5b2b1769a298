use native.Mathlib.Omega.{arith}
use Rattle.hgc.proofs.Laws.{line_passed, answer_fits, line_answered}
use Rattle.hgc.proofs.answer_line.Goals as goal

pub returns-then-verdict-eq0 : goal.returns-then-verdict-eq0
returns-then-verdict-eq0 c = let p = c.requires in line_passed _ _ _ _ _ p.0 p.1.0 c.if-verdict-eq0.true

pub put_answer-requires : goal.put_answer-requires
put_answer-requires c =
    let p = c.requires in
    (p.0, (answer_fits _ _ _ _ _ p.1.0 c.if-verdict-eq0.false p.1.1, p.1.1))

pub overflow_add-result : goal.overflow_add-result
overflow_add-result c =
    let p = c.requires in
    omega (arith, answer_fits _ _ _ _ _ p.1.0 c.if-verdict-eq0.false p.1.1)

pub overflow_add-result-else-verdict-eq0 : goal.overflow_add-result-else-verdict-eq0
overflow_add-result-else-verdict-eq0 c =
    let p = c.requires in
    omega (arith, answer_fits _ _ _ _ _ p.1.0 c.if-verdict-eq0.false p.1.1)

pub returns-else-verdict-eq0 : goal.returns-else-verdict-eq0
returns-else-verdict-eq0 c =
    let p = c.requires in
    line_answered _ _ _ _ _ p.0 p.1.0 _ c.put_answer.ensures c.if-verdict-eq0.false p.1.1
