use Rattle.pairing.specs.laws.Telling.{telling_start, telling_room, telling_turn, telling_end}
use mathlib.Core.Path.{refl, ap}
use Prim.Native.Nat.{ℕ, ◌+◌}
use native.Mathlib.Omega.{arith}
use Rattle.reading.proofs.tell.Goals as goal

pub loop-i-init : goal.loop-i-init
loop-i-init c = (omega arith, telling_start _ _ _)

pub verdict_at-requires : goal.verdict_at-requires
verdict_at-requires c = (c.requires.reasoned, (λ z. omega (arith, c.requires.answered, telling_room _ _ _ _ _ _ c.loop-i.invariant.1 c.loop-i-test.true z)))

pub loop-i-preserved : goal.loop-i-preserved
loop-i-preserved c =
    let t = c.loop-i-test.true in
    let v = c.loop-i.invariant in
    (omega (arith, v.0, c.left-k.ensures.1), telling_turn _ _ _ _ _ _ v.1 t (omega (arith, c.requires.room)) _ c.verdict_at.ensures _ (ap (λ (m : ℕ). c.loop-i.k + m) c.left-k.ensures.0) _ refl)

pub returns : goal.returns
returns c = telling_end _ _ _ _ _ _ c.loop-i.invariant.1 (omega (arith, c.loop-i-test.false, c.loop-i.auto.i-end))
