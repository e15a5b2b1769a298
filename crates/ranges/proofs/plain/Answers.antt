use Rattle.theory.specs.laws.Every.{leads_start, leads_on, leads_off, leads_end}
use mathlib.Core.Path.{◌≡◌, ap, ◌∙◌}
use mathlib.Core.Bool.{not}
use native.Mathlib.Omega.{arith}
use lib.ListN.{length}
use Rattle.ranges.proofs.plain.Goals as goal

pub loop-i-init : goal.loop-i-init
loop-i-init c = leads_start _ _

pub returns-then-is_wild : goal.returns-then-is_wild
returns-then-is_wild c =
    (leads_off _ _ _ c.loop-i.invariant (omega arith) _ (ap not c.is_wild.ensures) (ap not c.if-is_wild.true), omega arith)

pub loop-i-preserved : goal.loop-i-preserved
loop-i-preserved c = leads_on _ _ _ c.loop-i.invariant (omega arith) _ (ap not c.is_wild.ensures) (ap not c.if-is_wild.false)

pub returns : goal.returns
returns c =
    let e : length c.args.s.now ≡ c.loop-i.i = omega arith in
    (e ∙ leads_end _ _ _ c.loop-i.invariant (omega arith) (omega arith), omega arith)
