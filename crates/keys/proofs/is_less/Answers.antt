use native.Mathlib.Omega.{arith}
use Rattle.keys.specs.laws.Less.{less_start, less_on, less_off, less_over, less_end}
use Rattle.keys.proofs.is_less.Goals as goal

pub loop-i-init : goal.loop-i-init
loop-i-init c = (omega arith, less_start _ _)

pub returns-then-i-s : goal.returns-then-i-s
returns-then-i-s c = less_over _ _ _ c.loop-i.invariant.1 (omega arith)

pub returns-then-s-i : goal.returns-then-s-i
returns-then-s-i c = less_off _ _ _ c.loop-i.invariant.1 (omega arith) (omega arith) c.if-s-i.true

pub loop-i-preserved : goal.loop-i-preserved
loop-i-preserved c = (omega arith, less_on _ _ _ c.loop-i.invariant.1 (omega arith) (omega arith) c.if-s-i.false)

pub returns : goal.returns
returns c = less_end _ _ _ c.loop-i.invariant.1 c.loop-i-test.false
