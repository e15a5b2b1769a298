use native.Mathlib.Omega.{arith}
use Rattle.theory.specs.laws.Parts.{part_fits}
use Rattle.hgc.proofs.Laws.{answered_start, answered_room, answered_turn, answered_end}
use Rattle.hgc.proofs.put_answers.Goals as goal

pub loop-i-init : goal.loop-i-init
loop-i-init c = answered_start _ _ _ _ (omega arith)

pub answer_line-behind-requires : goal.answer_line-behind-requires
answer_line-behind-requires c =
    answered_room _ _ _ _ _ _ _ c.loop-i.invariant c.loop-i-test.true (part_fits _ _ _ _ c.args.lines.now.whole (omega (arith, c.loop-i-test.true, c.requires.lined))) _ c.part.ensures c.requires.wide c.requires.room

pub loop-i-preserved : goal.loop-i-preserved
loop-i-preserved c =
    answered_turn _ _ _ _ _ _ _ c.loop-i.invariant c.loop-i-test.true (part_fits _ _ _ _ c.args.lines.now.whole (omega (arith, c.loop-i-test.true, c.requires.lined))) _ c.part.ensures c.requires.wide _ _ c.answer_line-behind.ensures

pub returns : goal.returns
returns c = answered_end _ _ _ _ _ _ _ c.loop-i.invariant _ c.loop-i-test.false c.loop-i.auto.i-end
