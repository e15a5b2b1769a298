use mathlib.Core.Path.{◌≡◌, refl, sym, ◌∙◌}
use native.Mathlib.Omega.{arith}
use Prim.Native.Nat.{◌<◌}
use lib.ListN.{length, length-set}
use Rattle.theory.specs.laws.Scan.{judged_start, judged_turn, judged_end}
use Rattle.slots.specs.Slots.{slots_of}
use Rattle.verdicts.specs.Verdict.{verdict, verdicts_of}
use Rattle.verdicts.proofs.Laws.{beside}
use Rattle.verdicts.proofs.judge_lines.Goals as goal

pub loop-i-init : goal.loop-i-init
loop-i-init c = (refl, judged_start _ _ _ _)

pub loop-i-preserved : goal.loop-i-preserved
loop-i-preserved c =
    let x = c.loop-i in
    let b = c.args.basis.now in
    let h : x.i < length x.verdicts = omega (arith, x.invariant.0, c.loop-i-test.true) in
    (simp length-set x.invariant.0, judged_turn _ _ _ _ _ x.invariant.1 h _ (c.byte.ensures ∙ c.verdict_next-v.ensures ∙ beside (verdict b.rows.now b.sender.now (slots_of b.held.now)) c.args.lines.now.width _ c.args.lines.now.block.now _ h) _ refl)

pub returns : goal.returns
unfolding verdicts_of
returns c =
    let x = c.loop-i in
    let e : x.i ≡ length x.verdicts = omega (arith, x.invariant.0, c.loop-i-test.false, x.auto.i-end) in
    rw (← x.invariant.0, ← e) (judged_end _ _ _ _ _ x.invariant.1 (sym e))
