use mathlib.Core.Path.{sym}
use Prim.Native.Nat.{◌/◌, ◌≤◌}
use native.Mathlib.Omega.{arith}
use Rattle.calendar.specs.Calendar.{year_days, years_to}
use Rattle.calendar.specs.laws.Years.{years_most}
use Rattle.calendar.specs.laws.Back.{over_most, over_is}
use Rattle.calendar.proofs.years_over.Goals as goal

pub loop-y-init : goal.loop-y-init
loop-y-init c =
    let d = c.args.days in
    let h : years_to (d / 366) ≤ d = omega (arith, years_most (d / 366)) in
    (h, omega (arith, over_most year_days (d / 366) 9999 d h c.requires))

pub returns : goal.returns
returns c =
    let d = c.args.days in
    let y = c.loop-y.y in
    sym (over_is year_days 9999 d y (omega arith) c.loop-y.invariant.0 (omega arith))
