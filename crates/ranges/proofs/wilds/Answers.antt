use mathlib.Core.Path.{◌≡◌, ◌∙◌}
use Rattle.theory.specs.laws.Every.{leads_start, leads_on, leads_off, leads_end}
use native.Mathlib.Omega.{arith}
use lib.ListN.{length}
use Rattle.ranges.proofs.wilds.Goals as goal

pub loop-i-init : goal.loop-i-init
loop-i-init c = leads_start _ _

pub returns-then-not-is_wild : goal.returns-then-not-is_wild
returns-then-not-is_wild c =
    (leads_off _ _ _ c.loop-i.invariant (omega arith) _ c.is_wild.ensures (c.if-not-is_wild.true), omega arith)

pub loop-i-preserved : goal.loop-i-preserved
loop-i-preserved c = leads_on _ _ _ c.loop-i.invariant (omega arith) _ c.is_wild.ensures (c.if-not-is_wild.false)

pub returns : goal.returns
returns c =
    let e : length c.args.s.now ≡ c.loop-i.i = omega arith in
    (e ∙ leads_end _ _ _ c.loop-i.invariant (omega arith) (omega arith), omega arith)
