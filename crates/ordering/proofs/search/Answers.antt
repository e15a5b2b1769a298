use Rattle.theory.specs.laws.Below.{below_start, below_on, below_off}
use Rattle.ordering.proofs.search.Goals as goal

pub loop-i-init : goal.loop-i-init
loop-i-init c = below_start _

pub returns-then-not-is_fresh : goal.returns-then-not-is_fresh
returns-then-not-is_fresh c = below_off _ _ c.loop-i.invariant _ c.loop-i-test.true _ c.is_fresh.ensures c.if-not-is_fresh.true

pub loop-i-preserved : goal.loop-i-preserved
loop-i-preserved c = below_on _ _ c.loop-i.invariant _ c.is_fresh.ensures c.if-not-is_fresh.false
