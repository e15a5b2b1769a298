use native.Mathlib.Omega.{arith}
use Rattle.theory.specs.Count.{bump}
use Rattle.theory.specs.laws.Among.{count_among_start, count_among_end}
use Rattle.holdings.proofs.Laws.{counted}
use Rattle.holdings.proofs.count_new.Goals as goal
use Rattle.holdings.proofs.count_new.Goals.{then-is_new, else-is_new}

pub loop-i-init : goal.loop-i-init
loop-i-init c = (omega arith, count_among_start _ _ _)

pub loop-i-preserved : goal.loop-i-preserved
unfolding bump
loop-i-preserved c =
    let t = c.loop-i-test.true in
    let turn = counted _ _ _ _ _ c.loop-i.invariant.1 t (omega (arith, t, c.args.placed.now.each)) _ c.place_at.ensures _ c.is_new.ensures _ in
    elim c.if-is_new.branch [
      | then-is_new w ↦ (omega arith, turn (rw w.if-is_new.true (omega (arith, w.k-is))))
      | else-is_new w ↦ (omega arith, turn (rw w.if-is_new.false w.k-is))
    ]

pub returns : goal.returns
returns c = (count_among_end _ _ _ _ _ c.loop-i.invariant.1 (omega arith), omega (arith, c.loop-i.invariant.0))
