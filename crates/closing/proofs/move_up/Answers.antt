use mathlib.Core.Path.{sym, ◌∙◌}
use native.Mathlib.Omega.{arith}
use Rattle.closing.proofs.Laws.{closes_start, stays_on, goes_on}
use Rattle.closing.proofs.move_up.Goals as goal
use Rattle.closing.proofs.move_up.Goals.{then-stays, else-stays}

pub loop-i-init : goal.loop-i-init
loop-i-init c = closes_start _ _ _

pub loop-i-preserved : goal.loop-i-preserved
loop-i-preserved c = elim c.if-stays.branch [
  | then-stays w ↦ rw (w.block-is, w.k-is) (stays_on _ _ _ _ _ _ c.loop-i.invariant (omega arith) (sym c.stays.ensures ∙ w.if-stays.true) _ w.move_slot.ensures)
  | else-stays w ↦ rw (w.block-is, w.k-is) (goes_on _ _ _ _ _ _ c.loop-i.invariant (omega arith) (sym c.stays.ensures ∙ w.if-stays.false))
]
