use Rattle.theory.specs.laws.Among.{each_among_start, each_among_on, each_among_off, each_among_end}
use mathlib.Core.Path.{refl, sym, ◌∙◌}
use native.Mathlib.Omega.{arith}
use Rattle.matching.proofs.each_holds.Goals as goal

pub loop-i-init : goal.loop-i-init
loop-i-init c = each_among_start _ _ _ _ _

pub returns-then-is_wrong : goal.returns-then-is_wrong
returns-then-is_wrong c =
    sym (each_among_off _ _ _ _ _ _ c.loop-i.invariant (omega arith) c.loop-i-test.true _ c.part.ensures _ refl (sym c.is_wrong.ensures ∙ c.if-is_wrong.true))

pub loop-i-preserved : goal.loop-i-preserved
loop-i-preserved c =
    each_among_on _ _ _ _ _ _ c.loop-i.invariant (omega arith) c.loop-i-test.true _ c.part.ensures _ refl (sym c.is_wrong.ensures ∙ c.if-is_wrong.false)

pub returns : goal.returns
returns c = sym (each_among_end _ _ _ _ _ _ c.loop-i.invariant (omega arith))
