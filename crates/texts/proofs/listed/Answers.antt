use Rattle.texts.proofs.Laws.{search_start, search_on, search_hit, search_end}
use Rattle.texts.proofs.listed.Goals as goal

pub loop-i-init : goal.loop-i-init
loop-i-init c = search_start _ _ _

pub returns-then-same : goal.returns-then-same
returns-then-same c = search_hit _ _ _ _ c.loop-i.invariant c.loop-i-test.true _ c.part.ensures _ c.same.ensures c.if-same.true

pub loop-i-preserved : goal.loop-i-preserved
loop-i-preserved c = search_on _ _ _ _ c.loop-i.invariant c.loop-i-test.true _ c.part.ensures _ c.same.ensures c.if-same.false

pub returns : goal.returns
returns c = search_end _ _ _ _ c.loop-i.invariant c.loop-i-test.false
