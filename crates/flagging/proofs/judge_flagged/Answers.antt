use mathlib.Core.Path.{refl, ◌∙◌}
use Rattle.flagging.proofs.Laws.{walking_start, walking_read, walking_place, walking_flag, walking_turn, walking_end}
use Rattle.flagging.proofs.judge_flagged.Goals as goal

pub loop-i-init : goal.loop-i-init
loop-i-init c =
    walking_start _ _ _ _ _ _ _ c.requires.unflagged

pub bounds-firsts-i : goal.bounds-firsts-i
bounds-firsts-i c =
    walking_read _ _ _ _ _ _ _ _ _ c.loop-i.invariant c.loop-i-test.true _ _ c.requires.first

pub bounds-found-i : goal.bounds-found-i
bounds-found-i c =
    walking_read _ _ _ _ _ _ _ _ _ c.loop-i.invariant c.loop-i-test.true _ _ c.requires.placed

pub bounds-flags-first : goal.bounds-flags-first
bounds-flags-first c =
    walking_flag _ _ _ _ _ _ _ _ _ c.loop-i.invariant c.loop-i-test.true _ c.requires.first _ c.from-first.ensures

pub bounds-flags-first-in-loop-i : goal.bounds-flags-first-in-loop-i
bounds-flags-first-in-loop-i c =
    walking_flag _ _ _ _ _ _ _ _ _ c.loop-i.invariant c.loop-i-test.true _ c.requires.first _ c.from-first.ensures

pub loop-i-preserved : goal.loop-i-preserved
loop-i-preserved c =
    walking_turn _ _ _ _ _ _ _ _ _ c.loop-i.invariant c.loop-i-test.true _ c.requires.first _ c.from-first.ensures _ refl _ c.part.ensures _ (c.byte.ensures ∙ c.verdict_by-v.ensures) _ (rw c.byte.ensures c.flag_after.ensures)

pub returns : goal.returns
returns c = walking_end _ _ _ _ _ _ _ _ _ c.loop-i.invariant c.loop-i-test.false c.loop-i.auto.i-end

pub verdict_by-v-requires-clause-placed : goal.verdict_by-v-requires-clause-placed
verdict_by-v-requires-clause-placed c =
    walking_place _ _ _ _ _ _ _ _ _ c.loop-i.invariant c.loop-i-test.true _ c.requires.placed _ c.from-at.ensures _ c.part.ensures
