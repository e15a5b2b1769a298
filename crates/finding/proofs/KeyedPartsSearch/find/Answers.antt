use Rattle.theory.specs.laws.Place.{placing_end, placing_off, placing_on, placing_start}
use mathlib.Core.Path.{refl}
use native.Mathlib.Omega.{arith}
use Rattle.finding.proofs.Laws.{key_found}
use Rattle.finding.proofs.KeyedPartsSearch.find.Goals as goal

pub loop-i-init : goal.loop-i-init
loop-i-init c = placing_start _ _ _ _

pub returns-then-same : goal.returns-then-same
returns-then-same c =
    (placing_off _ _ _ _ _ c.loop-i.invariant c.loop-i-test.true _ refl _ (key_found _ _ _ _ _ c.key.ensures _ c.same.ensures) c.if-same.true, omega (arith, c.loop-i-test.true))

pub loop-i-preserved : goal.loop-i-preserved
loop-i-preserved c =
    placing_on _ _ _ _ _ c.loop-i.invariant c.loop-i-test.true _ refl _ (key_found _ _ _ _ _ c.key.ensures _ c.same.ensures) c.if-same.false

pub returns : goal.returns
returns c = let z = placing_end _ _ _ _ _ c.loop-i.invariant (omega arith) in (omega arith, omega arith)
