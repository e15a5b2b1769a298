use Rattle.pairing.specs.laws.Turns.{pairs_start, pairs_waiting, pairs_marks}
use Rattle.matching.proofs.Laws.{length_texts, last_most, pair_turn}
use mathlib.Core.Path.{◌≡◌, sym, ◌∙◌}
use native.Mathlib.Omega.{arith}
use Rattle.matching.proofs.pair.Goals as goal

pub loop-i-init : goal.loop-i-init
loop-i-init c =
    let n = c.requires.1 ∙ sym (length_texts _ _ _ _) in
    (omega arith, pairs_start _ _ _ n _ n _ (sym (length_texts _ _ _ _)))

pub overflow_sub-k : goal.overflow_sub-k
overflow_sub-k c = omega (arith, last_most _ _ _ _ c.mark-m.ensures)

pub loop-i-preserved : goal.loop-i-preserved
loop-i-preserved c =
    let v = c.loop-i.invariant in
    let a = c.loop-i.auto in
    (omega (arith, v.0), pair_turn _ _ _ _ _ _ _ v.1 c.loop-i-test.true (omega (arith, a.i)) (omega (arith, a.marks)) _ c.part.ensures _ c.mark-m.ensures)

pub returns : goal.returns
returns c =
    let z : c.loop-i.i ≡ 0 = omega (arith, c.loop-i-test.false) in
    let v = c.loop-i.invariant in
    record { left = pairs_waiting _ _ _ _ _ v.1 z; marked = pairs_marks _ _ _ _ _ v.1 z }
