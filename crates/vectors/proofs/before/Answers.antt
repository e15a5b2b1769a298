use Rattle.theory.specs.laws.Every.{leads_start, leads_on, leads_off, leads_end}
use Rattle.vectors.proofs.Laws.{other_end, other_on}
use mathlib.Core.Path.{◌≡◌, refl, ◌∙◌}
use lib.ListN.{length}
use native.Mathlib.Omega.{arith}
use Rattle.vectors.proofs.before.Goals as goal

pub loop-i-init : goal.loop-i-init
loop-i-init c = leads_start _ _

pub returns-then-b-end : goal.returns-then-b-end
returns-then-b-end c =
    (leads_off _ _ _ c.loop-i.invariant (omega arith) _ (other_end _ _ c.if-b-end.true) refl, omega arith)

pub loop-i-preserved : goal.loop-i-preserved
loop-i-preserved c = leads_on _ _ _ c.loop-i.invariant (omega arith) _ (other_on _ _ c.if-b-end.false) refl

pub returns : goal.returns
returns c =
    let e : length c.args.s.now ≡ c.loop-i.i = omega arith in
    (e ∙ leads_end _ _ _ c.loop-i.invariant (omega arith) (omega arith), omega arith)
