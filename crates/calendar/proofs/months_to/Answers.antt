use mathlib.Core.Path.{◌≡◌, sym, ◌∙◌}
use mathlib.Core.Bool.{true, false}
use native.Mathlib.Omega.{arith}
use Rattle.calendar.specs.Calendar.{leap}
use Rattle.calendar.specs.laws.Years.{even_months, months_few, months_more}
use Rattle.calendar.proofs.months_to.Goals as goal

pub returns-then-m-lt2 : goal.returns-then-m-lt2
unfolding even_months
returns-then-m-lt2 c = sym (months_few c.args.y c.args.m c.if-m-lt2.true)

pub returns-then-is_leap : goal.returns-then-is_leap
unfolding even_months
returns-then-is_leap c =
    let a = c.args in
    let e : leap a.y ≡ true = sym c.is_leap.ensures ∙ c.if-is_leap.true in
    omega (arith, rw e at (months_more a.y a.m (omega arith) c.requires))

pub returns : goal.returns
unfolding even_months
returns c =
    let a = c.args in
    let e : leap a.y ≡ false = sym c.is_leap.ensures ∙ c.if-is_leap.false in
    omega (arith, rw e at (months_more a.y a.m (omega arith) c.requires))
