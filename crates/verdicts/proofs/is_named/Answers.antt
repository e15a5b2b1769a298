use mathlib.Core.Path.{refl, sym, ◌∙◌}
use Rattle.theory.specs.laws.Among.{among_start, among_on, among_off, among_end}
use Rattle.verdicts.proofs.is_named.Goals as goal

pub loop-i-init : goal.loop-i-init
loop-i-init c = among_start _ _ _ _ _

pub returns-then-is_entry : goal.returns-then-is_entry
returns-then-is_entry c =
    let h = c.loop-i-test.true in
    sym (among_off _ _ _ _ _ _ c.loop-i.invariant h h _ c.part.ensures _ refl (sym c.is_entry.ensures ∙ c.if-is_entry.true))

pub loop-i-preserved : goal.loop-i-preserved
loop-i-preserved c =
    let h = c.loop-i-test.true in
    among_on _ _ _ _ _ _ c.loop-i.invariant h h _ c.part.ensures _ refl (sym c.is_entry.ensures ∙ c.if-is_entry.false)

pub returns : goal.returns
returns c = sym (among_end _ _ _ _ _ _ c.loop-i.invariant c.loop-i-test.false)
