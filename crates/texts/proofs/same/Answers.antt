use mathlib.Core.Path.{◌≡◌, sym, ◌∙◌}
use native.Mathlib.Omega.{arith}
use Rattle.theory.specs.laws.Same.{eqs_lengths, eqs_whole, eqs_on, eqs_off, eqs_none}
use Rattle.texts.proofs.same.Goals as goal

pub returns-then-a-b : goal.returns-then-a-b
returns-then-a-b c = sym (eqs_lengths _ _ c.if-a-b.true)

pub loop-i-init : goal.loop-i-init
loop-i-init c = eqs_whole _ _ _ (omega arith) (omega arith)

pub returns-then-a-i : goal.returns-then-a-i
returns-then-a-i c = sym (c.loop-i.invariant ∙ eqs_off _ _ _ c.loop-i-test.true c.loop-i.auto.i (omega (arith, c.loop-i.auto.i, c.if-a-b.false)) c.if-a-i.true)

pub loop-i-preserved : goal.loop-i-preserved
loop-i-preserved c = c.loop-i.invariant ∙ eqs_on _ _ _ c.loop-i-test.true c.loop-i.auto.i (omega (arith, c.loop-i.auto.i, c.if-a-b.false)) c.if-a-i.false

pub returns : goal.returns
returns c =
    let x = c.loop-i in
    let z : x.i ≡ 0 = omega (arith, c.loop-i-test.false) in
    sym (rw z at x.invariant ∙ eqs_none _ _)
