use Rattle.theory.specs.laws.Walk.{each_start, each_on, each_off, each_end}
use Rattle.answers.specs.laws.Layout.{lines_are}
use mathlib.Core.Path.{sym}
use Rattle.receipts.proofs.Laws.{each_two}
use Rattle.receipts.proofs.each_is_answer.Goals as goal

pub loop-i-init : goal.loop-i-init
loop-i-init c = each_start _ _ _ _

pub returns-then-not-is_answer : goal.returns-then-not-is_answer
returns-then-not-is_answer c =
    sym (rw (← lines_are _ _ c.lines-lines.result c.lines-lines.ensures, ← each_two _ _ _)
    (each_off _ _ _ _ _ c.loop-i.invariant c.loop-i-test.true _ c.part.ensures _ (rw c.width-width.ensures at c.is_answer.ensures) c.if-not-is_answer.true))

pub loop-i-preserved : goal.loop-i-preserved
loop-i-preserved c = each_on _ _ _ _ _ c.loop-i.invariant c.loop-i-test.true _ c.part.ensures _ (rw c.width-width.ensures at c.is_answer.ensures) c.if-not-is_answer.false

pub returns : goal.returns
returns c =
    sym (rw (← lines_are _ _ c.lines-lines.result c.lines-lines.ensures, ← each_two _ _ _) (each_end _ _ _ _ _ c.loop-i.invariant c.loop-i-test.false))
