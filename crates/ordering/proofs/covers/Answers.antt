use Rattle.theory.specs.laws.Below.{below_start, below_on, below_off}
use Rattle.ordering.proofs.covers.Goals as goal

pub loop-a-init : goal.loop-a-init
loop-a-init c = below_start _

pub returns-then-not-stands : goal.returns-then-not-stands
returns-then-not-stands c = below_off _ _ c.loop-a.invariant _ c.loop-a-test.true _ c.stands.ensures c.if-not-stands.true

pub loop-a-preserved : goal.loop-a-preserved
loop-a-preserved c = below_on _ _ c.loop-a.invariant _ c.stands.ensures c.if-not-stands.false
