use native.Mathlib.Omega.{arith}
use Rattle.theory.specs.laws.Tally.{tallied_start, tallied_turn, tallied_end}
use Rattle.taken.proofs.Laws.{counts, counts_most}
use Rattle.taken.proofs.count_taken.Goals as goal

pub loop-verdict-init : goal.loop-verdict-init
loop-verdict-init c = (omega arith, tallied_start _ _)

pub loop-verdict-preserved : goal.loop-verdict-preserved
loop-verdict-preserved c =
    let x = c.loop-verdict in
    let m = counts_most _ _ c.from-taken.ensures in
    (omega (arith, x.invariant.0, m), tallied_turn _ _ _ _ x.invariant.1 c.loop-verdict-test.true _ (counts _ _ c.from-taken.ensures))

pub returns : goal.returns
returns c = tallied_end _ _ _ _ c.loop-verdict.invariant.1 c.loop-verdict-test.false
