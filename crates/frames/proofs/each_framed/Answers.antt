use mathlib.Core.Path.{sym}
use Rattle.theory.specs.laws.Walk.{each_start, each_on, each_off, each_end}
use Rattle.frames.proofs.each_framed.Goals as goal

pub loop-i-init : goal.loop-i-init
loop-i-init c = each_start _ _ _ _

pub returns-then-not-is_framed : goal.returns-then-not-is_framed
returns-then-not-is_framed c =
    sym (each_off _ _ _ _ _ c.loop-i.invariant c.loop-i-test.true _ c.part.ensures _ c.is_framed.ensures c.if-not-is_framed.true)

pub loop-i-preserved : goal.loop-i-preserved
loop-i-preserved c =
    each_on _ _ _ _ _ c.loop-i.invariant c.loop-i-test.true _ c.part.ensures _ c.is_framed.ensures c.if-not-is_framed.false

pub returns : goal.returns
returns c = sym (each_end _ _ _ _ _ c.loop-i.invariant c.loop-i-test.false)
