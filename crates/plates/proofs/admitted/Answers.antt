use Rattle.theory.specs.laws.Every.{leads_end, leads_off, leads_on, leads_start}
use native.Mathlib.Omega.{arith}
use Rattle.plates.proofs.admitted.Goals as goal

pub loop-i-init : goal.loop-i-init
loop-i-init c = leads_start _ _

pub returns-then-not-admits : goal.returns-then-not-admits
returns-then-not-admits c = leads_off _ _ _ c.loop-i.invariant (omega arith) _ c.admits.ensures c.if-not-admits.true

pub loop-i-preserved : goal.loop-i-preserved
loop-i-preserved c = leads_on _ _ _ c.loop-i.invariant (omega arith) _ c.admits.ensures c.if-not-admits.false

pub returns : goal.returns
returns c = omega (arith, leads_end _ _ _ c.loop-i.invariant (omega arith) (omega arith))
